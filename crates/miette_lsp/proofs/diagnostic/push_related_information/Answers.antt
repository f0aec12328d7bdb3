use Rattle.std.proofs.Common.{ap, codes, map, sym, ◌∙◌}
use Rattle.std.proofs.lemmas.Result.{on_ok_weaker}
use Rattle.miette_json.proofs.WrittenSteps.{two_steps}
use Rattle.miette_json.specs.rules.Writing.{with_key, with_value}
use Rattle.miette_lsp.proofs.Parts.{no_related, some_related}
use Rattle.miette_lsp.specs.rules.Diagnostics.{related_values_of}
use Rattle.miette_sarif.specs.rules.Objects.{array_of}
use Rattle.miette_sarif.specs.steps.Members.{with_pairs}
use Rattle.miette_sarif.specs.views.Artifacts.{artifacts_view}
use Rattle.miette_sarif.specs.views.Findings.{mark_of}
use Rattle.miette_lsp.proofs.diagnostic.push_related_information.Goals as goal

pub returns-then-not-has_related : goal.returns-then-not-has_related
returns-then-not-has_related c =
    let untitled = (artifacts_view c.args.artifacts.now).untitled in
    ap (λ ps. with_pairs ps c.args.json.now) (sym (no_related untitled (map mark_of c.args.locations.now)
    (sym c.has_related.ensures ∙ c.if-not-has_related.true)))

pub returns : goal.returns
returns c =
    let untitled = (artifacts_view c.args.artifacts.now).untitled in
    let marks = map mark_of c.args.locations.now in
    on_ok_weaker c.push_all_related.result (λ put. two_steps (with_key (codes "relatedInformation"))
    (with_value (array_of (related_values_of untitled marks))) c.args.json.now _ _ c.in_ok-key.ensures put
    ∙ ap (λ ps. with_pairs ps c.args.json.now) (sym (some_related untitled marks
    (sym c.has_related.ensures ∙ c.if-not-has_related.false)))) c.push_all_related.ensures
