use Rattle.std.proofs.Common.{ap, codes, ◌∙◌}
use Rattle.std.proofs.lemmas.Result.{on_ok_weaker}
use Rattle.miette_json.proofs.WrittenSteps.{two_steps}
use Rattle.miette_json.specs.rules.Json.{string}
use Rattle.miette_json.specs.rules.Writing.{with_key, with_value}
use Rattle.miette_lsp.specs.rules.Diagnostics.{diagnostic_message_text}
use Rattle.miette_sarif.specs.views.Findings.{finding_of}
use Rattle.miette_lsp.proofs.diagnostic.push_source_and_message.Goals as goal

pub returns : goal.returns
returns c =
    let f = finding_of c.args.finding.now in
    on_ok_weaker c.string_member-2.result (λ put. two_steps
    (λ p. with_value (string c.args.tool.now) (with_key (codes "source") p))
    (λ p. with_value (string (diagnostic_message_text f)) (with_key (codes "message") p)) c.args.json.now _ _
    c.in_ok-string_member.ensures (put
    ∙ ap (λ t. with_value (string t) (with_key (codes "message") c.string_member.new.self))
    (c.as_str.ensures.value ∙ c.in_ok-message.ensures))) c.string_member-2.ensures
