use Rattle.std.proofs.Common.{◌≡◌, ℕ, List, Bool, true, subst, sym, ◌∙◌, rules}
use Rattle.miette_devices.proofs.WriteResults.{of-error}
use Rattle.miette_devices.specs.declared.fault.ProgramError.TheVariants.{Write}
use Rattle.miette_devices.specs.views.Device.{TakesBeginning}
use Rattle.miette_show_rows.specs.rules.Notes.{kind_is_unread, note_of, note_row}
use Rattle.miette_show_rows.proofs.streams.note_unread_row.Goals as goal

pub returns-clause-beginning : goal.returns-clause-beginning
returns-clause-beginning g c = λ e.
    let old = g.E.Write.contents c.args.faults.now.inner in
    let new = g.E.Write.contents c.write_whole.new.writer.inner in
    let unread : kind_is_unread c.args.kind ≡ true = search rules in
    let told : c.as_bytes.result.now ≡ note_row c.args.number =
    c.as_bytes.ensures.value ∙ c.in_ok-note_unread_row.ensures in
    subst (λ (b : Bool). TakesBeginning old new (note_of c.args.number b)) (sym unread)
    (subst (λ (t : List ℕ). TakesBeginning old new t) told
    (of-error c.write_whole.result Write _ c.write_whole.ensures.err e))
