use Rattle.std.proofs.Common.{◌≡◌, ◌∙◌, ℕ, List, subst}
use Rattle.miette_devices.proofs.WriteResults.{of-error}
use Rattle.miette_devices.specs.declared.fault.ProgramError.TheVariants.{Write}
use Rattle.miette_devices.specs.views.Device.{TakesBeginning}
use Rattle.miette_show_rows.specs.rules.Notes.{failure_note}
use Rattle.miette_show.proofs.rows.say_failure.Goals as goal

pub returns-clause-beginning : goal.returns-clause-beginning
returns-clause-beginning g c = λ e.
    let old = g.E.Write.contents c.args.faults.now.inner in
    let new = g.E.Write.contents c.write_whole.new.writer.inner in
    let told : c.as_bytes.result.now ≡ failure_note c.args.number c.args.what =
    c.as_bytes.ensures.value ∙ c.in_ok-text.ensures in
    subst (λ (t : List ℕ). TakesBeginning old new t) told
    (of-error c.write_whole.result Write _ c.write_whole.ensures.err e)
