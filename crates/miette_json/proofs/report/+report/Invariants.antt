use Rattle.std.proofs.Common.{map, drop}
use Rattle.std.specs.Option.{option_map}
use Rattle.miette_tree.specs.rules.Tree.{trees}
use Rattle.miette_tree.specs.views.Owned.{ref_source}
use Rattle.miette_tree.specs.views.Report.{tree_of}
use Rattle.miette_json.specs.rules.Writing.{opened}
use Rattle.miette_json.proofs.JsonAnswers.{RelatedSoFar}
use Rattle.miette_tree.proofs.TreeSizes.{reports_size, tree_size}
use Rattle.miette_json.proofs.report.+report.Given as goal

abbrev pub decreases-push_report : goal.decreases-push_report
decreases-push_report g l = tree_size (tree_of g.D.Diagnostic.meaning g.S.SourceCode.source l.report.now)

abbrev pub decreases-push_related : goal.decreases-push_related
decreases-push_related g l = reports_size g.D.Diagnostic.meaning g.S.SourceCode.source l.reports.now

abbrev pub invariant-push_related-loop-report : goal.invariant-push_related-loop-report
invariant-push_related-loop-report g l =
    let value = tree_of g.D.Diagnostic.meaning g.S.SourceCode.source in
    RelatedSoFar (option_map (ref_source g.S.SourceCode.source) l.source) (trees (map value l.reports))
    (trees (map value (drop l.report-index l.reports))) (opened 91 l.fn.json) l.json
