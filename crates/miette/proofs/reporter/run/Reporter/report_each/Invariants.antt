use Rattle.miette_tree.specs.views.Report.{tree_of}
use Rattle.miette.specs.rules.Reported.{behaving}
use Rattle.miette.proofs.Reported.{ReportedSoFar}
use Rattle.miette.proofs.reporter.run.Reporter.report_each.Given as goal

-- whatever the reports that are left make of the run, all make of that before
abbrev pub invariant-loop-report : goal.invariant-loop-report
invariant-loop-report g l =
    ReportedSoFar (behaving g.T.ReportHandler.gives g.T.ReportHandler.asks g.T.ReportHandler.refuses
    g.T.ReportHandler.keeps g.W.Write.contents)
    (tree_of g.D.Diagnostic.meaning g.S.SourceCode.source) l.reports l.report-index l.fn.self l.self
