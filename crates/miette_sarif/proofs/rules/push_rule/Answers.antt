use Rattle.std.proofs.Common.{codes}
use Rattle.std.proofs.lemmas.Result.{on_ok_weaker}
use Rattle.std.specs.Option.{option_copied}
use Rattle.miette_json.proofs.WrittenSteps.{four_steps}
use Rattle.miette_json.specs.rules.Json.{string}
use Rattle.miette_json.specs.rules.Writing.{closed, opened, with_key, with_value}
use Rattle.miette_sarif.specs.rules.Objects.{optional_text_pairs}
use Rattle.miette_sarif.specs.steps.Members.{with_pairs}
use Rattle.miette_sarif.specs.views.Rules.{option_text}
use Rattle.miette_sarif.proofs.rules.push_rule.Goals as goal

pub returns : goal.returns
returns c =
    on_ok_weaker c.end_object.result (four_steps (opened 123)
    (λ p. with_value (string c.args.code.now) (with_key (codes "id") p))
    (with_pairs (optional_text_pairs (codes "helpUri") (option_text (option_copied c.args.uri)))) (closed 125) _ _ _ _ _
    c.in_ok-begin_object.ensures c.in_ok-string_member.ensures c.in_ok-push_uri.ensures) c.end_object.ensures
