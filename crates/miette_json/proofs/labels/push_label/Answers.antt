use Rattle.std.proofs.Common.{ap, ◌∙◌, codes}
use Rattle.std.proofs.lemmas.Result.{on_ok_weaker}
use Rattle.miette_json.specs.rules.JsonReport.{span_json}
use Rattle.miette_json.specs.rules.Writing.{closed, opened, with_key, with_optional_text, with_value}
use Rattle.miette_json.proofs.JsonJoined.{label_parts}
use Rattle.miette_json.proofs.WrittenSteps.{five_steps}
use Rattle.miette_json.proofs.labels.push_label.Goals as goal

pub returns : goal.returns
returns c =
    let label = c.args.label.now in
    on_ok_weaker c.end_object.result (λ h. five_steps (opened 123) (with_optional_text (codes "label") label.text)
    (with_key (codes "span")) (with_value (span_json label.span)) (closed 125) _ _ _ _ _ _
    c.in_ok-begin_object.ensures
    (c.in_ok-optional_string_member.ensures
    ∙ ap (λ o. with_optional_text (codes "label") o c.begin_object.new.self) c.label.ensures)
    c.in_ok-key.ensures (c.in_ok-push_span.ensures
    ∙ ap (λ s. with_value (span_json s) c.key.new.self) c.inner.ensures) h ∙ label_parts label c.args.json.now)
    c.end_object.ensures
