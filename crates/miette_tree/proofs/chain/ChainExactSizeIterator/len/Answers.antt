use Rattle.miette_tree.specs.views.Report.{tree_of}
use Rattle.miette_tree.specs.rules.Chain.{spine}
use Rattle.miette_tree.proofs.Ends.{counted_left}
use Rattle.miette_tree.proofs.chain.ChainExactSizeIterator.len.Goals as goal

pub returns-in-Some-clause-value : goal.returns-in-Some-clause-value
returns-in-Some-clause-value g c =
    rw c.in-Some.is (counted_left (spine (tree_of g.D.Diagnostic.meaning g.S.SourceCode.source c.in-Some.report.now))
    c.args.self.now.texts.now c.args.self.now.count c.count_within.result c.count_within.ensures.is)
