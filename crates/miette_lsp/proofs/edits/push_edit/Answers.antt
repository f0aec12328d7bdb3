use Rattle.std.proofs.Common.{ap, codes, ◌∙◌}
use Rattle.std.proofs.lemmas.Result.{on_ok_weaker}
use Rattle.miette_json.proofs.WrittenSteps.{five_steps}
use Rattle.miette_json.specs.rules.Json.{string}
use Rattle.miette_json.specs.rules.Writing.{closed, opened, with_key, with_value}
use Rattle.miette_lsp.specs.rules.Diagnostics.{stretch_range}
use Rattle.miette_sarif.specs.views.Findings.{replacement_value_of}
use Rattle.miette_lsp.proofs.edits.push_edit.Goals as goal

pub returns : goal.returns
returns c =
    let item = replacement_value_of c.args.item.now in
    on_ok_weaker c.end_object.result (five_steps (opened 123) (with_key (codes "range"))
    (with_value (stretch_range item.deleted)) (λ p. with_value (string item.text) (with_key (codes "newText") p))
    (closed 125) _ _ _ _ _ _ c.in_ok-begin_object.ensures c.in_ok-key.ensures c.in_ok-push_stretch_range.ensures
    (c.in_ok-string_member.ensures
    ∙ ap (λ t. with_value (string t) (with_key (codes "newText") c.push_stretch_range.new.json))
    c.as_str.ensures.value)) c.end_object.ensures
