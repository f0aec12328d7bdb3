use Rattle.serde_json.specs.View.{view}
use Rattle.miette_read_sarif.specs.rules.Newlines.{sequence_in}
use Rattle.miette_read_sarif.proofs.NewlineSteps.{pushed}
use Rattle.miette_read_sarif.proofs.newlines.push_sequence.Goals as goal

pub returns-in-Some : goal.returns-in-Some
returns-in-Some c =
    pushed c.push_item.result c.args.list.now.items c.push_item.new.list.items c.in-Some.sequence
    (sequence_in (view c.args.item.now)) c.in-Some.ensures c.push_item.ensures
