use Rattle.std.proofs.Common.{ap, ◌++◌, ◌∙◌}
use Rattle.std.proofs.lemmas.Result.{on_ok_weaker}
use Rattle.miette_json.specs.rules.Writing.{with_value}
use Rattle.miette_sarif.specs.rules.Messages.{doubled}
use Rattle.miette_sarif.specs.rules.Objects.{message_of}
use Rattle.miette_sarif.proofs.message.push_doubled_message.Goals as goal

pub returns : goal.returns
returns c =
    on_ok_weaker c.push_plain_message.result (λ put. put ∙ ap (λ t. with_value (message_of t) c.args.json.now)
    (c.as_str.ensures.value ∙ c.in_ok-push_doubled.ensures
    ∙ ap (λ l. l ++ doubled c.args.text.now) c.new-doubled.ensures.bytes)) c.push_plain_message.ensures
