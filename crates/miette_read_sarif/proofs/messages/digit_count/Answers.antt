use Rattle.miette_read_sarif.specs.rules.Messages.{is_no_digit}
use Rattle.miette_read_sarif.proofs.WalkSteps.{position_nowhere, position_there}
use Rattle.miette_read_sarif.proofs.messages.digit_count.Goals as goal

pub returns-in-Some : goal.returns-in-Some
returns-in-Some c = position_there is_no_digit c.args.text.now c.in-Some.at c.in-Some.ensures

pub returns-in-None : goal.returns-in-None
returns-in-None c = position_nowhere is_no_digit c.args.text.now c.in-None.ensures
