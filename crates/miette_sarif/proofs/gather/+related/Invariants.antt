use Rattle.std.proofs.Common.{drop, map}
use Rattle.miette_tree.proofs.TreeSizes.{reports_size, tree_size}
use Rattle.miette_tree.specs.rules.Tree.{trees}
use Rattle.miette_tree.specs.views.Report.{tree_of}
use Rattle.miette_sarif.specs.views.FindingParts.{gathered_of}
use Rattle.miette_sarif.specs.views.Sources.{over_of}
use Rattle.miette_sarif.proofs.Gathers.{ReportsSoFar}
use Rattle.miette_sarif.proofs.gather.+related.Given as goal

abbrev pub decreases-gather : goal.decreases-gather
decreases-gather g l = tree_size (tree_of g.D.Diagnostic.meaning g.S.SourceCode.source l.report.now)

abbrev pub decreases-gather_all : goal.decreases-gather_all
decreases-gather_all g l = reports_size g.D.Diagnostic.meaning g.S.SourceCode.source l.reports.now

abbrev pub invariant-gather_all-loop-report : goal.invariant-gather_all-loop-report
invariant-gather_all-loop-report g l =
    let value = tree_of g.D.Diagnostic.meaning g.S.SourceCode.source in
    ReportsSoFar (over_of l.inherited) (trees (map value l.reports))
    (trees (map value (drop l.report-index l.reports))) (gathered_of l.fn.gathered) (gathered_of l.gathered)
