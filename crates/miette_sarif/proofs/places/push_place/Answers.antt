use Rattle.std.proofs.Common.{codes}
use Rattle.std.proofs.lemmas.Result.{on_ok_weaker}
use Rattle.miette_json.proofs.WrittenSteps.{five_steps}
use Rattle.miette_json.specs.rules.Writing.{closed, opened, with_key, with_value}
use Rattle.miette_sarif.specs.rules.Artifacts.{artifact_location}
use Rattle.miette_sarif.specs.rules.Places.{region_pairs}
use Rattle.miette_sarif.specs.steps.Members.{with_pairs}
use Rattle.miette_sarif.specs.views.Artifacts.{artifacts_view}
use Rattle.miette_sarif.specs.views.Findings.{place_of}
use Rattle.miette_sarif.proofs.places.push_place.Goals as goal

pub returns : goal.returns
returns c =
    let place = place_of c.args.place.now in
    on_ok_weaker c.end_object.result (five_steps (opened 123) (with_key (codes "artifactLocation"))
    (with_value (artifact_location (artifacts_view c.args.artifacts.now) place.source))
    (with_pairs (region_pairs place.area)) (closed 125) _ _ _ _ _ _ c.in_ok-begin_object.ensures c.in_ok-key.ensures
    c.in_ok-push_artifact_location.ensures c.in_ok-push_region.ensures) c.end_object.ensures
