use Rattle.std.proofs.Common.{ap, ◌++◌, ◌∙◌}
use Rattle.std.proofs.lemmas.Result.{on_ok_weaker}
use Rattle.miette_json.specs.rules.Writing.{closed}
use Rattle.miette_sarif.proofs.Pieces.{located_put}
use Rattle.miette_sarif.specs.rules.Places.{place_pairs, text_pairs}
use Rattle.miette_sarif.specs.steps.Members.{with_pairs}
use Rattle.miette_sarif.specs.views.Artifacts.{artifacts_view}
use Rattle.miette_sarif.specs.views.Findings.{mark_of}
use Rattle.miette_sarif.proofs.places.push_location.Goals as goal

pub returns : goal.returns
returns c =
    let a = artifacts_view c.args.artifacts.now in
    let m = mark_of c.args.mark.now in
    on_ok_weaker c.end_object.result (λ put. located_put a m _ _ _ _ c.in_ok-push_further_place.ensures
    c.in_ok-push_further_text.ensures put
    ∙ ap (λ p. closed 125 (with_pairs (place_pairs a m.place ++ text_pairs m.text) p)) c.in_ok-begin_object.ensures)
    c.end_object.ensures
