use Rattle.std.proofs.Common.{◌≡◌, Some, map, rules, string_bytes, subst}
use Rattle.std.specs.Io.KnownBytes.{Appends}
use Rattle.miette_program.specs.steps.ParsedArguments.{parsed_of}
use Rattle.miette_report.specs.rules.Requests.{IsProgramStatus, report, requested_by}
use Rattle.miette_report.proofs.RequestSteps.{report-status, words-failed}
use Rattle.miette_report.proofs.job.run_program.Goals as goal

pub returns-in-Ok-Report : goal.returns-in-Ok-Report
returns-in-Ok-Report g c =
    let words = map string_bytes c.args.words.now in
    let it = c.in-Ok-Report.settings in
    let asked : requested_by words ≡ Some (report (parsed_of it)) = search rules in
    record {
      status = subst (λ d. IsProgramStatus words (g.R.Read.remaining d) c.finish.result) c.new-reader.ensures.inner
          (report-status _ words it _
          (Appends (g.W.Write.contents c.new-writer.result.inner) (g.W.Write.contents c.run.new.writer.inner))
          c.run.result c.finish.result asked c.run.ensures.ok c.run.ensures.description c.run.ensures.refused
          c.run.ensures.called c.finish.ensures);
    }

pub returns : goal.returns
returns g c =
    record {
      status = words-failed (map string_bytes c.args.words.now) (g.R.Read.remaining c.args.reader) c.in-Err.fault
          c.end-in-Err.result c.in-Err.ensures c.end-in-Err.ensures;
    }
