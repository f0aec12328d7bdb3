use Rattle.miette_program.proofs.OptionWordSteps.{valued}
use Rattle.miette_program.proofs.option_words.take_value.Goals as goal

pub returns-clause-some : goal.returns-clause-some
returns-clause-some c =
    valued c.args.word.now c.args.words.now c.in_ok-value.rest.now c.in_ok-value.value.now c.as_str.result.now
    c.in_ok-value.ensures.cases.0 c.as_str.ensures.value
