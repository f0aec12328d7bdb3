use Rattle.miette_program.proofs.OptionWordSteps.{differ, otherwise}
use Rattle.miette_program.proofs.arguments.Arguments.with_terminal.Goals as goal

pub returns-in_default : goal.returns-in_default
returns-in_default c = search (otherwise, differ, c.in_default)
