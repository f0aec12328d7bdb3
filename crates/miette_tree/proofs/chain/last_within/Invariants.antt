use Rattle.std.proofs.Common.{◌≡◌, ◌-◌, drop}
use Rattle.miette_tree.specs.rules.Chain.{spine}
use Rattle.miette_tree.specs.views.Report.{tree_of}
use Rattle.miette_tree.proofs.chain.last_within.Given as goal

-- what lies after the reports that were passed
abbrev pub invariant-loop-before : goal.invariant-loop-before
invariant-loop-before g l =
    let value = tree_of g.D.Diagnostic.meaning g.S.SourceCode.source in
    drop (l.before - 1) (spine (value l.report)) ≡ spine (value l.at)
