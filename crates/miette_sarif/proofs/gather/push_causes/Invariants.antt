use Rattle.miette_tree.proofs.TreeSizes.{tree_size}
use Rattle.miette_tree.specs.rules.Tree.{cause_of}
use Rattle.miette_tree.specs.views.Report.{tree_of}
use Rattle.miette_sarif.specs.views.FindingParts.{collected_of}
use Rattle.miette_sarif.specs.views.Sources.{over_of}
use Rattle.miette_sarif.proofs.Gathers.{CausesSoFar}
use Rattle.miette_sarif.proofs.gather.push_causes.Given as goal

abbrev pub decreases-loop-cause : goal.decreases-loop-cause
decreases-loop-cause g l = tree_size (tree_of g.D.Diagnostic.meaning g.S.SourceCode.source l.at)

abbrev pub invariant-loop-cause : goal.invariant-loop-cause
invariant-loop-cause g l =
    let value = tree_of g.D.Diagnostic.meaning g.S.SourceCode.source in
    CausesSoFar (over_of l.seen) l.fn.sources (cause_of (value l.report)) (cause_of (value l.at)) l.sources
    (collected_of l.fn.collected) (collected_of l.collected)
