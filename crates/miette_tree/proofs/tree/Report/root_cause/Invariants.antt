use Rattle.std.proofs.Common.{◌≡◌, length, None}
use Rattle.std.specs.List.{last_or}
use Rattle.miette_tree.specs.rules.Tree.{chain_of}
use Rattle.miette_tree.specs.rules.Chain.{spine}
use Rattle.miette_tree.specs.views.Report.{tree_of}
use Rattle.miette_tree.proofs.tree.Report.root_cause.Given as goal

-- the chain of the report that was reached has the same last text
abbrev pub invariant-loop-next : goal.invariant-loop-next
invariant-loop-next g l =
    let value = tree_of g.D.Diagnostic.meaning g.S.SourceCode.source in
    last_or None (chain_of (value l.at)) ≡ last_or None (chain_of (value l.self))

abbrev pub decreases-loop-next : goal.decreases-loop-next
decreases-loop-next g l = length (spine (tree_of g.D.Diagnostic.meaning g.S.SourceCode.source l.at))
