use Rattle.std.proofs.Common.{codes}
use Rattle.std.proofs.lemmas.Result.{on_ok_weaker}
use Rattle.miette_json.proofs.WrittenSteps.{six_steps}
use Rattle.miette_json.specs.rules.Json.{string}
use Rattle.miette_json.specs.rules.Writing.{closed, opened, with_key, with_value}
use Rattle.miette_sarif.proofs.artifacts.push_artifact.Goals as goal

pub returns : goal.returns
returns c =
    on_ok_weaker c.end_object-2.result (six_steps (opened 123) (with_key (codes "location")) (opened 123)
    (λ p. with_value (string c.args.uri.now) (with_key (codes "uri") p)) (closed 125) (closed 125) _ _ _ _ _ _ _
    c.in_ok-begin_object.ensures c.in_ok-key.ensures c.in_ok-begin_object-2.ensures c.in_ok-string_member.ensures
    c.in_ok-end_object.ensures) c.end_object-2.ensures
