use Rattle.miette_snippet_laws.proofs.PlainSnippets.{plain_snippets}
use Rattle.miette_snippet_laws.proofs.row_laws.rows_turn_plain.Goals as goal

pub returns-clause-same : goal.returns-clause-same
returns-clause-same c = λ s styles source labels answers are_plain.
    (plain_snippets ⊥ s styles are_plain (λ p. absurd p) source labels answers (λ p. absurd p) (λ p. absurd p)).same

pub returns-clause-plain : goal.returns-clause-plain
returns-clause-plain c = λ s styles source labels answers are_plain.
    (plain_snippets ⊥ s styles are_plain (λ p. absurd p) source labels answers (λ p. absurd p) (λ p. absurd p)).plain
