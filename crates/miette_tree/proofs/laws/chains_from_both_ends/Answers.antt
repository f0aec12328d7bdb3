use Rattle.miette_tree.specs.views.RemainingChain.{remaining_chain}
use Rattle.miette_tree.proofs.ChainLaws.{mixed, from_front, from_back}
use Rattle.miette_tree.proofs.laws.chains_from_both_ends.Goals as goal

pub returns-clause-once : goal.returns-clause-once
returns-clause-once g c = λ chain later taken given. mixed (λ x. x.now)
    (remaining_chain g.D.Diagnostic.meaning g.S.SourceCode.source) taken chain later given

pub returns-clause-front : goal.returns-clause-front
returns-clause-front g c = λ chain items given. from_front (λ x. x.now)
    (remaining_chain g.D.Diagnostic.meaning g.S.SourceCode.source) items chain given.1.0 given.0 given.1.1 given.1.2

pub returns-clause-back : goal.returns-clause-back
returns-clause-back g c = λ chain items given. from_back (λ x. x.now)
    (remaining_chain g.D.Diagnostic.meaning g.S.SourceCode.source) items chain given.1.0 given.0 given.1.1 given.1.2
