use Rattle.std.proofs.Common.{refl, rules}
use Rattle.std.proofs.lemmas.Result.{on_ok_weaker}
use Rattle.std.specs.Io.KnownBytes.{Appends}
use Rattle.miette_devices.specs.views.Device.{TakesBeginning}
use Rattle.miette_devices.specs.declared.fault.ProgramError.TheVariants.{Read, Write}
use Rattle.miette_report.proofs.JobEnds.{asked-measures, early-end, early-failed, early-other}
use Rattle.miette_report.proofs.JobEnds.{not-wrong-bench, settings-end}
use Rattle.miette_report.proofs.bench.run_bench.Goals as goal

pub returns-in_err-times-clause-end : goal.returns-in_err-times-clause-end
returns-in_err-times-clause-end g c =
    early-end _ _ _ _ _ _ refl (search rules) c.in_err-times.ensures.usage c.in_err-times.ensures.others

pub returns-in_err-times-clause-read_failed : goal.returns-in_err-times-clause-read_failed
returns-in_err-times-clause-read_failed g c =
    early-failed _ _ _ _ Read refl (search rules) c.in_err-times.ensures.others (λ e. cc) (λ e. cc)
    c.requires.reader_sound

pub returns-in_err-times-clause-write_failed : goal.returns-in_err-times-clause-write_failed
returns-in_err-times-clause-write_failed g c =
    early-failed _ _ _ _ Write refl (search rules) c.in_err-times.ensures.others (λ e. cc) (λ e. cc)
    c.requires.writer_sound

pub returns-in_err-times-clause-beginning : goal.returns-in_err-times-clause-beginning
returns-in_err-times-clause-beginning g c =
    early-other _ _ _ Write refl (search rules) c.in_err-times.ensures.others (λ e. cc) (λ e. cc)

pub returns-clause-ok : goal.returns-clause-ok
returns-clause-ok g c =
    let it = c.in_ok-times.settings in
    on_ok_weaker c.measure.result (asked-measures _ _ _ _ it.choice it.options it.terminal _
    (Appends (g.W.Write.contents c.args.writer.now.inner) (g.W.Write.contents c.measure.new.writer.inner))
    c.in_ok-times.ensures.times c.in_ok-times.ensures.table) c.measure.ensures.ok

pub returns-clause-end : goal.returns-clause-end
returns-clause-end g c =
    let it = c.in_ok-times.settings in
    settings-end _ _ it.choice it.options it.terminal _ c.measure.result c.in_ok-times.ensures.table
    (not-wrong-bench _ _ _ it.choice it.options it.terminal c.in_ok-times.ensures.times c.in_ok-times.ensures.table)
    c.measure.ensures.described c.measure.ensures.description c.measure.ensures.refused c.measure.ensures.called

pub returns-clause-unread : goal.returns-clause-unread
returns-clause-unread g c =
    let it = c.in_ok-times.settings in
    λ none. absurd (not-wrong-bench _ _ _ it.choice it.options it.terminal c.in_ok-times.ensures.times
    c.in_ok-times.ensures.table none)

pub returns-clause-beginning : goal.returns-clause-beginning
returns-clause-beginning g c =
    let it = c.in_ok-times.settings in
    λ fault. asked-measures _ _ _ _ it.choice it.options it.terminal _
    (TakesBeginning (g.W.Write.contents c.args.writer.now.inner) (g.W.Write.contents c.measure.new.writer.inner))
    c.in_ok-times.ensures.times
    c.in_ok-times.ensures.table (c.measure.ensures.beginning fault)
