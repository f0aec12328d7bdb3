use Rattle.std.proofs.Common.{List, ap, codes, map, sym, ◌∙◌}
use Rattle.std.proofs.lemmas.Result.{on_ok_weaker}
use Rattle.miette_json.proofs.WrittenSteps.{three_steps}
use Rattle.miette_sarif.proofs.Growing.{pairs_three}
use Rattle.miette_sarif.specs.declared.finding.Proposal.{Proposal}
use Rattle.miette_sarif.specs.declared.finding.SarifLocation.{SarifLocation}
use Rattle.miette_sarif.specs.rules.Artifacts.{Artifacts}
use Rattle.miette_sarif.specs.rules.Objects.{Pairs, listed}
use Rattle.miette_sarif.specs.rules.Places.{primary_locations, related_from}
use Rattle.miette_sarif.specs.rules.Results.{sarif_fix_values}
use Rattle.miette_sarif.specs.steps.Members.{with_pairs}
use Rattle.miette_sarif.specs.views.Artifacts.{artifacts_view}
use Rattle.miette_sarif.specs.views.Findings.{applicable_fix_of, finding_of, mark_of}
use Rattle.miette_sarif.proofs.results.push_tail.Goals as goal

abbrev others : Artifacts → List SarifLocation → Pairs
others a ms = listed (codes "relatedLocations") (related_from a 1 (map mark_of ms))

abbrev fixes : Artifacts → List Proposal → Pairs
fixes a ps = listed (codes "fixes") (sarif_fix_values a (map applicable_fix_of ps))

pub returns : goal.returns
returns c =
    let a = artifacts_view c.args.artifacts.now in
    let f = finding_of c.args.finding.now in
    let own = listed (codes "locations") (primary_locations a f.primary) in
    let locations = c.args.finding.now.locations.items in
    let proposals = c.args.finding.now.fixes.items in
    on_ok_weaker c.push_fixes.result (λ put. three_steps (with_pairs own) (with_pairs (others a locations))
    (with_pairs (fixes a proposals)) c.args.json.now _ _ _ c.in_ok-push_primary.ensures
    (c.in_ok-push_others.ensures ∙ ap (λ ms. with_pairs (others a ms) c.push_primary.new.json) c.deref.ensures.value)
    (put ∙ ap (λ ps. with_pairs (fixes a ps) c.push_others.new.json) c.deref-2.ensures.value)
    ∙ sym (pairs_three own (others a locations) (fixes a proposals) c.args.json.now)) c.push_fixes.ensures
