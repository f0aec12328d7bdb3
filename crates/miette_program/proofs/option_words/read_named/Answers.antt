use Rattle.miette_program.proofs.OptionWordSteps.{differ, otherwise}
use Rattle.miette_program.proofs.option_words.read_named.Goals as goal

pub returns-in_default : goal.returns-in_default
returns-in_default c = search (otherwise, differ, c.in_default)
