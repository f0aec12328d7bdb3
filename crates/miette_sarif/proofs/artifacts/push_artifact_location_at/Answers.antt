use Rattle.std.proofs.Common.{codes}
use Rattle.std.proofs.lemmas.Result.{on_ok_weaker}
use Rattle.miette_json.proofs.WrittenSteps.{four_steps}
use Rattle.miette_json.specs.rules.Json.{number, string}
use Rattle.miette_json.specs.rules.Writing.{closed, opened, with_key, with_value}
use Rattle.miette_sarif.proofs.artifacts.push_artifact_location_at.Goals as goal

pub returns : goal.returns
returns c =
    on_ok_weaker c.end_object.result (four_steps (opened 123)
    (λ p. with_value (string c.args.uri.now) (with_key (codes "uri") p))
    (λ p. with_value (number c.args.index) (with_key (codes "index") p)) (closed 125) _ _ _ _ _
    c.in_ok-begin_object.ensures c.in_ok-string_member.ensures c.in_ok-number_member.ensures) c.end_object.ensures
