use Rattle.std.proofs.Common.{◌≡◌, ◌++◌, map, string_bytes}
use Rattle.miette_tree.specs.rules.Tree.{cause_of, causes_of, chain_of}
use Rattle.miette_tree.specs.views.Report.{tree_of}
use Rattle.miette_tree.proofs.tree.Report.chain_texts.Given as goal

-- the texts so far and the causes of the report that was reached are the chain
abbrev pub invariant-loop-at : goal.invariant-loop-at
invariant-loop-at g l =
    let value = tree_of g.D.Diagnostic.meaning g.S.SourceCode.source in
    map string_bytes l.list.items ++ causes_of (cause_of (value l.at)) ≡ chain_of (value l.self)
