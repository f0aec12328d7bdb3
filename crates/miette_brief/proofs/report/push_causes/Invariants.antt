use Rattle.std.proofs.Common.{string_bytes}
use Rattle.std.specs.Option.{option_map}
use Rattle.miette_tree.specs.rules.Tree.{cause_of}
use Rattle.miette_tree.specs.views.Report.{tree_of}
use Rattle.miette_tree.specs.views.Owned.{ref_source}
use Rattle.miette_tree.proofs.TreeSizes.{tree_size}
use Rattle.miette_brief.specs.steps.Conversions.{brief_location_of}
use Rattle.miette_brief.proofs.Causing.{CausesSoFar}
use Rattle.miette_brief.proofs.report.push_causes.Given as goal

abbrev pub decreases-loop-next : goal.decreases-loop-next
decreases-loop-next g l = tree_size (tree_of g.D.Diagnostic.meaning g.S.SourceCode.source l.above)

abbrev pub invariant-loop-next : goal.invariant-loop-next
invariant-loop-next g l =
    let value = tree_of g.D.Diagnostic.meaning g.S.SourceCode.source in
    let source = option_map (ref_source g.S.SourceCode.source) in
    CausesSoFar (brief_location_of l.at) (source l.source) (cause_of (value l.fn.report)) (cause_of (value l.above))
    (string_bytes l.fn.out) (string_bytes l.out)
