use Rattle.miette_lint.proofs.FixedLines.{fixed_again, fixed_clean, fixed_needs_nothing}
use Rattle.miette_lint.proofs.Proposed.{fixed_applied, proposals_taken}
use Rattle.miette_lint.proofs.laws.lint_fixed_text_laws.Goals as goal

pub returns-clause-clean : goal.returns-clause-clean
returns-clause-clean c = fixed_clean

pub returns-clause-again : goal.returns-clause-again
returns-clause-again c = fixed_again

pub returns-clause-applied : goal.returns-clause-applied
returns-clause-applied c = fixed_applied

pub returns-clause-settled : goal.returns-clause-settled
returns-clause-settled c = fixed_needs_nothing

pub returns-clause-taken : goal.returns-clause-taken
returns-clause-taken c = proposals_taken
