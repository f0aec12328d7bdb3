use Rattle.std.proofs.Common.{◌≡◌, ◌+◌, ◌<◌, length}
use Rattle.miette_tree.specs.rules.Chain.{spine}
use Rattle.miette_tree.specs.views.Report.{tree_of}
use Rattle.miette_tree.proofs.Ends.{tail}
use Rattle.miette_tree.proofs.tree.Report.chain.Given as goal

-- how many reports were met, and that what lies below is still the rest of the chain
abbrev pub invariant-loop-next : goal.invariant-loop-next
invariant-loop-next g l =
    let value = tree_of g.D.Diagnostic.meaning g.S.SourceCode.source in
    record {
      started : 0 < l.count;
      counted : l.count + length (spine (value l.at)) ≡ length (spine (value l.self)) + 1;
      same : tail (value l.at) ≡ tail (value l.self);
    }

abbrev pub decreases-loop-next : goal.decreases-loop-next
decreases-loop-next g l = length (spine (tree_of g.D.Diagnostic.meaning g.S.SourceCode.source l.at))
