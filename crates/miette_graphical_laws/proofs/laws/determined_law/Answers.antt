use Rattle.miette_graphical_laws.proofs.Determined.{one-text}
use Rattle.miette_graphical_laws.proofs.DeterminedTokens.{tokens-determined}
use Rattle.miette_graphical_rules.specs.views.HandlerState.{draws_plain, follows_of}
use Rattle.miette_graphical_laws.proofs.laws.determined_law.Goals as goal

pub returns-clause-text : goal.returns-clause-text
returns-clause-text g c = λ it after other t x y same none nothing reads h k.
    one-text (follows_of g.H.Highlighter.may_follow it) (follows_of g.H.Highlighter.may_follow after)
    (follows_of g.H.Highlighter.may_follow other) it.settings (draws_plain g.H.Highlighter.is_blank it) t x y same none
    nothing reads h k

pub returns-clause-rules : goal.returns-clause-rules
returns-clause-rules g c = λ rules left_open. tokens-determined rules left_open
