use Rattle.std.proofs.Common.{ap, codes, sym, [], ◌∙◌}
use Rattle.std.proofs.lemmas.Result.{on_ok_weaker}
use Rattle.std.specs.Option.{option_map}
use Rattle.miette_json.proofs.WrittenSteps.{four_steps}
use Rattle.miette_json.specs.rules.Writing.{closed, opened, with_key, with_value}
use Rattle.miette_sarif.specs.rules.Objects.{listed}
use Rattle.miette_sarif.specs.rules.Places.{location, primary_locations}
use Rattle.miette_sarif.specs.steps.Members.{with_pairs}
use Rattle.miette_sarif.specs.views.Artifacts.{artifacts_view}
use Rattle.miette_sarif.specs.views.Findings.{mark_of}
use Rattle.miette_sarif.proofs.results.push_primary.Goals as goal

pub returns-in_ok-push_location-in-Some : goal.returns-in_ok-push_location-in-Some
returns-in_ok-push_location-in-Some c =
    let a = artifacts_view c.args.artifacts.now in
    let old = c.args.json.now in
    on_ok_weaker c.end_list.result (λ put. four_steps (with_key (codes "locations")) (opened 91)
    (with_value (location a [] (mark_of c.in-Some.mark))) (closed 93) old _ _ _ _ c.in_ok-key-in-Some.ensures
    c.in_ok-begin_list-in-Some.ensures c.in_ok-push_location-in-Some.ensures put
    ∙ ap (λ o. with_pairs (listed (codes "locations") (primary_locations a (option_map mark_of o))) old)
    (sym c.in-Some.is)) c.end_list.ensures
