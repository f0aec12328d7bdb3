use Rattle.miette_lint.proofs.FindingSteps.{tab_after}
use Rattle.miette_lint.proofs.blanks.tab_after_space.Goals as goal

pub returns-in-Some-clause-at : goal.returns-in-Some-clause-at
returns-in-Some-clause-at c = tab_after c.args.blanks.now c.in-Some.space _ c.in-Some.ensures.at c.tab_from.ensures.at
