use Rattle.miette_program.proofs.OptionWordSteps.{differ, otherwise, unless}
use Rattle.miette_program.proofs.arguments.Arguments.with_count.Goals as goal

pub returns-in_default : goal.returns-in_default
returns-in_default c = search (unless, otherwise, differ, c.in_default)
