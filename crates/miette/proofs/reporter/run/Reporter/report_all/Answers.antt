use Rattle.std.proofs.Common.{◌∙◌, ap}
use Rattle.miette.specs.declared.reporter.counts.Counts.{Counts}
use Rattle.miette.specs.rules.Reported.{behaving}
use Rattle.miette.specs.rules.ReporterRun.{run_status}
use Rattle.miette.proofs.Reported.{counted_all}
use Rattle.miette.proofs.reporter.run.Reporter.report_all.Goals as goal

pub returns : goal.returns
returns g c =
    let all = counted_all (behaving g.T.ReportHandler.gives g.T.ReportHandler.asks g.T.ReportHandler.refuses
    g.T.ReportHandler.keeps g.W.Write.contents)
    g.D.Diagnostic.meaning g.S.SourceCode.source c.args.reports.now c.args.self c.report_each.new.self
    c.report_each.ensures in
    let failure = c.finish.new.self.failure in (
      failure,
      c.finish.ensures.status ∙ ap (λ (counts : Counts). run_status counts failure)
          (c.finish.ensures.counts ∙ all),
    )
