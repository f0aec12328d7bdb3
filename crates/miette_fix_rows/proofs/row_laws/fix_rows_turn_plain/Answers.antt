use Rattle.miette_fix_rows.proofs.PlainFixes.{plain_fix}
use Rattle.miette_fix_rows.proofs.row_laws.fix_rows_turn_plain.Goals as goal

pub returns-clause-same : goal.returns-clause-same
returns-clause-same c = λ s styles source fails edits are_plain.
    (plain_fix ⊥ s styles are_plain (λ p. absurd p) source fails edits (λ p. absurd p) (λ p. absurd p)).same

pub returns-clause-plain : goal.returns-clause-plain
returns-clause-plain c = λ s styles source fails edits are_plain.
    (plain_fix ⊥ s styles are_plain (λ p. absurd p) source fails edits (λ p. absurd p) (λ p. absurd p)).plain
