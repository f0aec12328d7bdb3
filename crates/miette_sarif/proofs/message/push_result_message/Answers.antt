use Rattle.std.proofs.Common.{ap, ◌++◌, ◌∙◌}
use Rattle.std.proofs.lemmas.Result.{on_ok_weaker}
use Rattle.miette_json.specs.rules.Writing.{with_value}
use Rattle.miette_sarif.specs.rules.Objects.{message_of}
use Rattle.miette_sarif.specs.rules.Results.{result_message_text}
use Rattle.miette_sarif.specs.views.Findings.{finding_of}
use Rattle.miette_sarif.specs.views.Rules.{rules_view}
use Rattle.miette_sarif.proofs.message.push_result_message.Goals as goal

pub returns : goal.returns
returns c =
    on_ok_weaker c.push_plain_message.result (λ put. put ∙ ap (λ t. with_value (message_of t) c.args.json.now)
    (c.as_str.ensures.value ∙ c.in_ok-push_message.ensures
    ∙ ap (λ l. l ++ result_message_text (rules_view c.args.rules.now) (finding_of c.args.finding.now))
    c.new-text.ensures.bytes)) c.push_plain_message.ensures
