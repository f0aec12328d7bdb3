use Rattle.std.proofs.Common.{ap, codes, sym, ◌∙◌}
use Rattle.std.proofs.lemmas.Result.{on_ok_weaker}
use Rattle.std.specs.Option.{option_map}
use Rattle.miette_json.proofs.WrittenSteps.{two_steps}
use Rattle.miette_json.specs.rules.Writing.{with_key, with_value}
use Rattle.miette_sarif.specs.rules.Places.{place_pairs, place_value}
use Rattle.miette_sarif.specs.steps.Members.{with_pairs}
use Rattle.miette_sarif.specs.views.Artifacts.{artifacts_view}
use Rattle.miette_sarif.specs.views.Findings.{place_of}
use Rattle.miette_sarif.proofs.places.push_further_place.Goals as goal

pub returns-in_ok-key-in-Some : goal.returns-in_ok-key-in-Some
returns-in_ok-key-in-Some c =
    let a = artifacts_view c.args.artifacts.now in
    let old = c.args.json.now in
    on_ok_weaker c.push_place.result (λ put. two_steps (with_key (codes "physicalLocation"))
    (with_value (place_value a (place_of c.in-Some.place))) old _ _ c.in_ok-key-in-Some.ensures put
    ∙ ap (λ o. with_pairs (place_pairs a (option_map place_of o)) old) (sym c.in-Some.is)) c.push_place.ensures
