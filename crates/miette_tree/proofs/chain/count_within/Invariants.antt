use Rattle.std.proofs.Common.{◌≡◌, ◌+◌, length}
use Rattle.miette_tree.specs.rules.Chain.{spine}
use Rattle.miette_tree.specs.views.Report.{tree_of}
use Rattle.miette_tree.proofs.chain.count_within.Given as goal

-- how many reports were passed
abbrev pub invariant-loop-before : goal.invariant-loop-before
invariant-loop-before g l =
    let value = tree_of g.D.Diagnostic.meaning g.S.SourceCode.source in
    l.before + length (spine (value l.at)) ≡ length (spine (value l.report))
