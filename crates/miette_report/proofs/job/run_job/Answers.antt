use Rattle.std.proofs.Common.{map, refl, rules, string_bytes}
use Rattle.std.proofs.lemmas.Result.{on_ok_weaker}
use Rattle.std.specs.Io.KnownBytes.{Appends}
use Rattle.miette_devices.specs.views.Device.{TakesBeginning}
use Rattle.miette_devices.specs.declared.fault.ProgramError.TheVariants.{Read, Write}
use Rattle.miette_report.proofs.JobEnds.{asked-writes, early-end, early-failed, early-other}
use Rattle.miette_program.proofs.OptionWordSteps.{not-wrong}
use Rattle.miette_report.proofs.JobEnds.{settings-end, writes-described}
use Rattle.miette_report.proofs.job.run_job.Goals as goal

pub returns-in_err-settings-clause-end : goal.returns-in_err-settings-clause-end
returns-in_err-settings-clause-end g c =
    early-end _ _ _ _ _ _ refl (search rules) c.in_err-settings.ensures.usage c.in_err-settings.ensures.others

pub returns-in_err-settings-clause-read_failed : goal.returns-in_err-settings-clause-read_failed
returns-in_err-settings-clause-read_failed g c =
    early-failed _ _ _ _ Read refl (search rules) c.in_err-settings.ensures.others (λ e. cc) (λ e. cc)
    c.requires.reader_sound

pub returns-in_err-settings-clause-write_failed : goal.returns-in_err-settings-clause-write_failed
returns-in_err-settings-clause-write_failed g c =
    early-failed _ _ _ _ Write refl (search rules) c.in_err-settings.ensures.others (λ e. cc) (λ e. cc)
    c.requires.writer_sound

pub returns-in_err-settings-clause-beginning : goal.returns-in_err-settings-clause-beginning
returns-in_err-settings-clause-beginning g c =
    early-other _ _ _ Write refl (search rules) c.in_err-settings.ensures.others (λ e. cc) (λ e. cc)

pub returns-clause-ok : goal.returns-clause-ok
returns-clause-ok g c =
    let it = c.in_ok-settings.settings in
    on_ok_weaker c.run.result (asked-writes _ (map string_bytes c.args.words.now) it.choice it.options it.terminal _
    (Appends (g.W.Write.contents c.args.writer.now.inner) (g.W.Write.contents c.run.new.writer.inner))
    c.in_ok-settings.ensures.table) c.run.ensures.ok

pub returns-clause-end : goal.returns-clause-end
returns-clause-end g c =
    let it = c.in_ok-settings.settings in
    settings-end _ (map string_bytes c.args.words.now) it.choice it.options it.terminal _ c.run.result
    c.in_ok-settings.ensures.table
    (not-wrong (map string_bytes c.args.words.now) it.choice it.options it.terminal c.in_ok-settings.ensures.table)
    (writes-described _ it.choice it.options it.terminal _
    (Appends (g.W.Write.contents c.args.writer.now.inner) (g.W.Write.contents c.run.new.writer.inner))
    c.run.result c.run.ensures.ok) c.run.ensures.description c.run.ensures.refused c.run.ensures.called

pub returns-clause-unread : goal.returns-clause-unread
returns-clause-unread g c =
    let it = c.in_ok-settings.settings in
    λ none. absurd (not-wrong (map string_bytes c.args.words.now) it.choice it.options it.terminal
    c.in_ok-settings.ensures.table none)

pub returns-clause-beginning : goal.returns-clause-beginning
returns-clause-beginning g c =
    let it = c.in_ok-settings.settings in
    λ fault. asked-writes _ (map string_bytes c.args.words.now) it.choice it.options it.terminal _
    (TakesBeginning (g.W.Write.contents c.args.writer.now.inner) (g.W.Write.contents c.run.new.writer.inner))
    c.in_ok-settings.ensures.table (c.run.ensures.beginning fault)
