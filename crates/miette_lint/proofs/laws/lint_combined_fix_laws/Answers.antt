use Rattle.miette_lint.proofs.AllTogether.{joint_accepted, joint_applied}
use Rattle.miette_lint.proofs.FewerFindings.{mended_and_left}
use Rattle.miette_lint.proofs.laws.lint_combined_fix_laws.Goals as goal

pub returns-clause-accepted : goal.returns-clause-accepted
returns-clause-accepted c = joint_accepted

pub returns-clause-applied : goal.returns-clause-applied
returns-clause-applied c = joint_applied

pub returns-clause-counts : goal.returns-clause-counts
returns-clause-counts c = mended_and_left
