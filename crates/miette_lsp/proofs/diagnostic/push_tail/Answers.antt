use Rattle.std.proofs.Common.{ap, codes, map, sym, ◌∙◌}
use Rattle.std.proofs.lemmas.Result.{on_ok_weaker}
use Rattle.miette_json.proofs.WrittenSteps.{two_steps}
use Rattle.miette_lsp.specs.rules.Diagnostics.{data_pairs, lsp_fix_values, related_values_of}
use Rattle.miette_sarif.proofs.Growing.{pairs_joined}
use Rattle.miette_sarif.specs.rules.Objects.{listed}
use Rattle.miette_sarif.specs.steps.Members.{with_pairs}
use Rattle.miette_sarif.specs.views.Artifacts.{artifacts_view}
use Rattle.miette_sarif.specs.views.Findings.{applicable_fix_of, finding_of, mark_of}
use Rattle.miette_lsp.proofs.diagnostic.push_tail.Goals as goal

pub returns : goal.returns
returns c =
    let untitled = (artifacts_view c.args.artifacts.now).untitled in
    let f = finding_of c.args.finding.now in
    let related = listed (codes "relatedInformation") (related_values_of untitled f.locations) in
    let told = data_pairs (lsp_fix_values untitled f.fixes) in
    on_ok_weaker c.push_data.result (λ put. two_steps (with_pairs related) (with_pairs told) c.args.json.now _ _
    (c.in_ok-push_related_information.ensures
    ∙ ap (λ ms. with_pairs (listed (codes "relatedInformation") (related_values_of untitled (map mark_of ms)))
    c.args.json.now) c.deref.ensures.value)
    (put ∙ ap (λ ps. with_pairs (data_pairs (lsp_fix_values untitled (map applicable_fix_of ps)))
    c.push_related_information.new.json) c.deref-2.ensures.value)
    ∙ sym (pairs_joined related told c.args.json.now)) c.push_data.ensures
