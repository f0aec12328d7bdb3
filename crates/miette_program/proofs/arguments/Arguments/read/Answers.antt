use Rattle.std.proofs.Common.{◌∙◌, ap, map, option_map, string_bytes}
use Rattle.std.specs.Option.{option_and_then}
use Rattle.miette_program.specs.rules.OptionWords.{with_words}
use Rattle.miette_program.specs.steps.ParsedArguments.{parsed_of}
use Rattle.miette_program.proofs.OptionWordSteps.{all_done}
use Rattle.miette_program.proofs.arguments.Arguments.read.Goals as goal

pub loop-rest-preserved : goal.loop-rest-preserved
loop-rest-preserved c =
    c.loop-rest.invariant ∙ c.in-Some.ensures.some (parsed_of c.loop-rest.settings)
    ∙ ap (option_and_then (with_words (map string_bytes c.in-Some.more.now))) c.in_ok-settings.ensures

pub returns-clause-table : goal.returns-clause-table
returns-clause-table c =
    c.loop-rest.invariant ∙ all_done c.loop-rest.rest.now (parsed_of c.loop-rest.settings) c.loop-rest-test.ensures

pub returns-clause-choice : goal.returns-clause-choice
returns-clause-choice c =
    ap (option_map (λ r. r.choice)) (c.loop-rest.invariant
    ∙ all_done c.loop-rest.rest.now (parsed_of c.loop-rest.settings) c.loop-rest-test.ensures)
