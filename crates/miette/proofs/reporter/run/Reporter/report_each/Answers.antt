use Rattle.miette_tree.specs.views.Report.{tree_of}
use Rattle.miette.specs.rules.Reported.{behaving}
use Rattle.miette.proofs.Reported.{reported_all, reported_more}
use Rattle.miette.proofs.reporter.run.Reporter.report_each.Goals as goal

pub loop-report-init : goal.loop-report-init
loop-report-init g c = λ new rest. rest

pub loop-report-preserved : goal.loop-report-preserved
loop-report-preserved g c =
    let l = c.loop-report in
    reported_more (behaving g.T.ReportHandler.gives g.T.ReportHandler.asks g.T.ReportHandler.refuses
    g.T.ReportHandler.keeps g.W.Write.contents)
    (tree_of g.D.Diagnostic.meaning g.S.SourceCode.source) c.args.reports.now l.report-index c.report-item.result
    c.report.result c.args.self.now l.self c.report.new.self c.loop-report-test.true c.report-item.is l.invariant
    c.report.ensures.reported

pub returns : goal.returns
returns g c =
    let l = c.loop-report in
    reported_all (behaving g.T.ReportHandler.gives g.T.ReportHandler.asks g.T.ReportHandler.refuses
    g.T.ReportHandler.keeps g.W.Write.contents)
    (tree_of g.D.Diagnostic.meaning g.S.SourceCode.source) c.args.reports.now l.report-index c.args.self.now l.self
    c.loop-report-test.false l.invariant
