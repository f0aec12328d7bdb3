use Rattle.std.proofs.Common.{codes}
use Rattle.std.proofs.lemmas.Result.{on_ok_weaker}
use Rattle.miette_json.proofs.WrittenSteps.{three_steps}
use Rattle.miette_json.specs.rules.Json.{string}
use Rattle.miette_json.specs.rules.Writing.{closed, opened, with_key, with_value}
use Rattle.miette_sarif.proofs.message.push_plain_message.Goals as goal

pub returns : goal.returns
returns c =
    on_ok_weaker c.end_object.result (three_steps (opened 123)
    (λ p. with_value (string c.args.text.now) (with_key (codes "text") p)) (closed 125) _ _ _ _
    c.in_ok-begin_object.ensures c.in_ok-string_member.ensures) c.end_object.ensures
