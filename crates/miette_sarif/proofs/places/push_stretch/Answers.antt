use Rattle.std.proofs.lemmas.Result.{on_ok_weaker}
use Rattle.miette_json.proofs.WrittenSteps.{three_steps}
use Rattle.miette_json.specs.rules.Writing.{closed, opened}
use Rattle.miette_sarif.specs.rules.Places.{line_pairs}
use Rattle.miette_sarif.specs.steps.Members.{with_pairs}
use Rattle.miette_sarif.proofs.places.push_stretch.Goals as goal

pub returns : goal.returns
returns c =
    on_ok_weaker c.end_object.result (three_steps (opened 123) (with_pairs (line_pairs c.args.stretch.now)) (closed 125)
    _ _ _ _ c.in_ok-begin_object.ensures c.in_ok-push_lines.ensures) c.end_object.ensures
