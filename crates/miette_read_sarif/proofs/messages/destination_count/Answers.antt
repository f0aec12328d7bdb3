use Rattle.std.proofs.Common.{ap, ◌∙◌}
use Rattle.std.specs.List.{position_or_len}
use Rattle.miette_read_sarif.specs.rules.Messages.{ends_destination}
use Rattle.miette_read_sarif.proofs.WalkSteps.{position_nowhere, position_there}
use Rattle.miette_read_sarif.proofs.messages.destination_count.Goals as goal

pub returns-in-Some : goal.returns-in-Some
returns-in-Some c =
    position_there ends_destination c.after_bytes-rest.result.now c.in-Some.at c.in-Some.ensures
    ∙ ap (position_or_len ends_destination) c.after_bytes-rest.ensures

pub returns-in-None : goal.returns-in-None
returns-in-None c =
    position_nowhere ends_destination c.after_bytes-rest.result.now c.in-None.ensures
    ∙ ap (position_or_len ends_destination) c.after_bytes-rest.ensures
