use Rattle.miette_program.specs.steps.ParsedArguments.{parsed_of}
use Rattle.miette_program.proofs.OptionWordSteps.{of_name, of_number}
use Rattle.miette_program.proofs.arguments.Arguments.with_read.Goals as goal

pub returns-in-Some : goal.returns-in-Some
returns-in-Some c =
    of_number c.args.word.now c.args.value.now c.in-Some.number c.number.result (parsed_of c.args.self)
    c.with_number.result c.number.ensures c.in-Some.is c.with_number.ensures

pub returns-in_default-value : goal.returns-in_default-value
returns-in_default-value c =
    of_name c.args.word.now c.args.value.now c.number.result (parsed_of c.args.self) c.with_name.result c.number.ensures
    c.in_default.is c.in_default-value.not-yes c.in_default-value.not-no c.with_name.ensures
