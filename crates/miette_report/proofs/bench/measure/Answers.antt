use Rattle.std.proofs.Common.{inl}
use Rattle.std.proofs.lemmas.Result.{on_err_weaker, on_ok_weaker}
use Rattle.std.specs.Io.KnownBytes.{Appends}
use Rattle.miette_devices.specs.views.Device.{TakesBeginning}
use Rattle.miette_report.specs.rules.Job.{IsDescription}
use Rattle.miette_devices.specs.declared.fault.ProgramError.TheVariants.{Usage, Write, Description, Refused}
use Rattle.miette_report.proofs.JobEnds.{measured, told-of}
use Rattle.miette_devices.proofs.WriteResults.{no-other, of-error, read-failed, write-failed}
use Rattle.miette_report.proofs.bench.measure.Goals as goal

pub returns-clause-ok : goal.returns-clause-ok
returns-clause-ok g c =
    let it = c.args.settings in
    on_ok_weaker c.write_whole.result (λ took. measured _ it.choice it.options it.terminal _ _ _ _ _ c.args.times _
    (Appends (g.W.Write.contents c.args.writer.now.inner) (g.W.Write.contents c.write_whole.new.writer.inner))
    c.in_ok-bytes.ensures.bytes c.as_slice.ensures.value c.in_ok-length.ensures.none c.in_ok-length.ensures.ok
    c.in_ok-text.ensures c.as_bytes.ensures.value took) c.write_whole.ensures.ok

pub returns-clause-described : goal.returns-clause-described
returns-clause-described g c =
    on_ok_weaker c.write_whole.result (λ took. told-of _ _ _ IsDescription c.in_ok-bytes.ensures.bytes
    c.as_slice.ensures.value c.in_ok-length.ensures.described) c.write_whole.ensures.ok

pub returns-clause-description : goal.returns-clause-description
returns-clause-description g c =
    λ fault. absurd (no-other c.write_whole.result Description c.write_whole.ensures.fault (λ e. cc) fault)

pub returns-clause-refused : goal.returns-clause-refused
returns-clause-refused g c =
    λ fault. absurd (no-other c.write_whole.result Refused c.write_whole.ensures.fault (λ e. cc) fault)

pub returns-clause-called : goal.returns-clause-called
returns-clause-called g c = λ fault. no-other c.write_whole.result Usage c.write_whole.ensures.fault (λ e. cc) fault

pub returns-clause-read_failed : goal.returns-clause-read_failed
returns-clause-read_failed g c =
    read-failed _ _ c.write_whole.result c.in_ok-bytes.ensures.failed c.write_whole.ensures.fault

pub returns-clause-write_failed : goal.returns-clause-write_failed
returns-clause-write_failed g c =
    write-failed _ c.write_whole.result c.write_whole.ensures.failed c.write_whole.ensures.fault

pub returns-clause-beginning : goal.returns-clause-beginning
returns-clause-beginning g c =
    let it = c.args.settings in
    λ fault. measured _ it.choice it.options it.terminal _ _ _ _ _ c.args.times _
    (TakesBeginning (g.W.Write.contents c.args.writer.now.inner) (g.W.Write.contents c.write_whole.new.writer.inner))
    c.in_ok-bytes.ensures.bytes c.as_slice.ensures.value c.in_ok-length.ensures.none c.in_ok-length.ensures.ok
    c.in_ok-text.ensures c.as_bytes.ensures.value
    (of-error c.write_whole.result Write _ c.write_whole.ensures.err fault)

pub returns-clause-untouched : goal.returns-clause-untouched
returns-clause-untouched g c = on_err_weaker c.write_whole.result inl c.write_whole.ensures.fault
