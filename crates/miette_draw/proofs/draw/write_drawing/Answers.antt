use Rattle.std.proofs.Common.{inl, inr}
use Rattle.std.proofs.lemmas.Result.{on_err_weaker, on_ok_weaker}
use Rattle.miette_draw.proofs.DrawSteps.{told}
use Rattle.miette_devices.proofs.WriteResults.{of-error, read-failed, write-failed}
use Rattle.miette_devices.specs.views.Device.{TakesBeginning}
use Rattle.std.specs.Io.KnownBytes.{Appends}
use Rattle.miette_devices.specs.declared.fault.ProgramError.TheVariants.{Write}
use Rattle.miette_draw.proofs.draw.write_drawing.Goals as goal

pub returns-clause-ok : goal.returns-clause-ok
returns-clause-ok g c =
    on_ok_weaker c.write_whole.result (λ took. told _ _ _ _ _
    (Appends (g.W.Write.contents c.args.writer.now.inner) (g.W.Write.contents c.write_whole.new.writer.inner))
    c.in_ok-input.ensures.bytes c.in-Ok.ensures.ok c.as_bytes.ensures.value took) c.write_whole.ensures.ok

pub returns-clause-read_failed : goal.returns-clause-read_failed
returns-clause-read_failed g c = read-failed _ _ c.write_whole.result c.in_ok-input.ensures.failed
    c.write_whole.ensures.fault

pub returns-clause-write_failed : goal.returns-clause-write_failed
returns-clause-write_failed g c = write-failed _ c.write_whole.result c.write_whole.ensures.failed
    c.write_whole.ensures.fault

pub returns-clause-others : goal.returns-clause-others
returns-clause-others g c = on_err_weaker c.write_whole.result (λ is. inr (inr is)) c.write_whole.ensures.fault

pub returns-clause-beginning : goal.returns-clause-beginning
returns-clause-beginning g c = λ fault.
    told _ _ _ _ _ (TakesBeginning (g.W.Write.contents c.args.writer.now.inner)
    (g.W.Write.contents c.write_whole.new.writer.inner))
    c.in_ok-input.ensures.bytes c.in-Ok.ensures.ok c.as_bytes.ensures.value
    (of-error c.write_whole.result Write _ c.write_whole.ensures.err fault)

pub returns-clause-untouched : goal.returns-clause-untouched
returns-clause-untouched g c = on_err_weaker c.write_whole.result inl c.write_whole.ensures.fault
