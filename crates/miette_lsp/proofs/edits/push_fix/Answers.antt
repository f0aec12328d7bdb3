use Rattle.std.proofs.Common.{ap, codes, map, ◌∙◌}
use Rattle.std.proofs.lemmas.Result.{on_ok_weaker}
use Rattle.miette_fixes.specs.rules.Texts.{applicability_name}
use Rattle.miette_json.proofs.WrittenSteps.{seven_steps}
use Rattle.miette_json.specs.rules.Json.{string}
use Rattle.miette_json.specs.rules.Writing.{closed, opened, with_key, with_value}
use Rattle.miette_lsp.specs.rules.Diagnostics.{text_edit}
use Rattle.miette_sarif.specs.rules.Artifacts.{uri_of}
use Rattle.miette_sarif.specs.rules.Objects.{array_of}
use Rattle.miette_sarif.specs.views.Artifacts.{artifacts_view}
use Rattle.miette_sarif.specs.views.Findings.{applicable_fix_of, replacement_value_of}
use Rattle.miette_lsp.proofs.edits.push_fix.Goals as goal

pub returns : goal.returns
returns c =
    let fix = applicable_fix_of c.args.fix.now in
    let uri = uri_of (artifacts_view c.args.artifacts.now).untitled fix.source in
    on_ok_weaker c.end_object.result (seven_steps (opened 123)
    (λ p. with_value (string fix.message) (with_key (codes "title") p))
    (λ p. with_value (string (applicability_name fix.applicability)) (with_key (codes "applicability") p))
    (λ p. with_value (string uri) (with_key (codes "uri") p)) (with_key (codes "edits"))
    (with_value (array_of (map text_edit fix.replacements))) (closed 125) _ _ _ _ _ _ _ _
    c.in_ok-begin_object.ensures c.in_ok-string_member.ensures (c.in_ok-string_member-2.ensures
    ∙ ap (λ t. with_value (string t) (with_key (codes "applicability") c.string_member.new.self)) c.name.ensures)
    (c.in_ok-string_member-3.ensures
    ∙ ap (λ t. with_value (string t) (with_key (codes "uri") c.string_member-2.new.self))
    (c.as_str.ensures.value ∙ c.in_ok-uri.ensures)) c.in_ok-key.ensures (c.in_ok-push_edits.ensures
    ∙ ap (λ rs. with_value (array_of (map text_edit (map replacement_value_of rs))) c.key.new.self)
    c.deref.ensures.value)) c.end_object.ensures
