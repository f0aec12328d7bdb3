use Rattle.std.proofs.Common.{Some, None}
use Rattle.miette_lint.proofs.FindingSteps.{found_after}
use Rattle.miette_lint.proofs.blanks.tab_from.Goals as goal

pub returns-in-Some-clause-at : goal.returns-in-Some-clause-at
returns-in-Some-clause-at c = found_after c.args.blanks.now c.args.space (Some c.in-Some.tab) c.in-Some.ensures.at

pub returns-in-None-clause-at : goal.returns-in-None-clause-at
returns-in-None-clause-at c = found_after c.args.blanks.now c.args.space None c.in-None.ensures.at
