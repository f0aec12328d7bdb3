use Rattle.std.proofs.Common.{ap, codes, sym, ◌∙◌}
use Rattle.std.proofs.lemmas.Result.{on_ok_weaker}
use Rattle.std.specs.Option.{option_map}
use Rattle.miette_json.proofs.WrittenSteps.{two_steps}
use Rattle.miette_json.specs.rules.Writing.{with_key, with_value}
use Rattle.miette_sarif.specs.rules.Places.{region, region_pairs}
use Rattle.miette_sarif.specs.steps.Members.{with_pairs}
use Rattle.miette_sarif.specs.views.Findings.{area_of}
use Rattle.miette_sarif.proofs.places.push_region.Goals as goal

pub returns-in_ok-key-in-Some : goal.returns-in_ok-key-in-Some
returns-in_ok-key-in-Some c =
    let old = c.args.json.now in
    on_ok_weaker c.push_area.result (λ put. two_steps (with_key (codes "region"))
    (with_value (region (area_of c.in-Some.area))) old _ _ c.in_ok-key-in-Some.ensures put
    ∙ ap (λ o. with_pairs (region_pairs (option_map area_of o)) old) (sym c.in-Some.is)) c.push_area.ensures
