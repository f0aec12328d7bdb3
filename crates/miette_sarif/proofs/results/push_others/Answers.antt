use Rattle.std.proofs.Common.{List, codes, map, refl}
use Rattle.std.proofs.lemmas.Result.{on_ok_weaker}
use Rattle.miette_json.proofs.WrittenSteps.{two_steps}
use Rattle.miette_json.specs.rules.Json.{Json}
use Rattle.miette_json.specs.rules.Writing.{with_key, with_value}
use Rattle.miette_sarif.proofs.Growing.{none_put, some_put}
use Rattle.miette_sarif.specs.declared.finding.SarifLocation.{SarifLocation}
use Rattle.miette_sarif.specs.rules.Artifacts.{Artifacts}
use Rattle.miette_sarif.specs.rules.Objects.{array_of, listed, pair}
use Rattle.miette_sarif.specs.rules.Places.{related_from}
use Rattle.miette_sarif.specs.views.Artifacts.{artifacts_view}
use Rattle.miette_sarif.specs.views.Findings.{mark_of}
use Rattle.miette_sarif.proofs.results.push_others.Goals as goal

abbrev values : Artifacts → List SarifLocation → List Json
values a ms = related_from a 1 (map mark_of ms)

pub returns-then-is_empty : goal.returns-then-is_empty
returns-then-is_empty c =
    let a = artifacts_view c.args.artifacts.now in
    none_put c.args.locations.now (λ ms. listed (codes "relatedLocations") (values a ms)) _ c.is_empty.result refl
    c.is_empty.ensures c.if-is_empty.true

pub returns : goal.returns
returns c =
    let a = artifacts_view c.args.artifacts.now in
    let locations = c.args.locations.now in
    on_ok_weaker c.push_related.result (λ put. some_put locations (λ ms. pair (codes "relatedLocations")
    (array_of (values a ms))) (λ ms. listed (codes "relatedLocations") (values a ms)) _ _ c.is_empty.result
    (λ m ms. refl) c.is_empty.ensures c.if-is_empty.false (two_steps (with_key (codes "relatedLocations"))
    (with_value (array_of (values a locations))) c.args.json.now _ _ c.in_ok-key.ensures put)) c.push_related.ensures
