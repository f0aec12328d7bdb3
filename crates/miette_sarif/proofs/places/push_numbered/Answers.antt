use Rattle.std.proofs.Common.{ap, codes, ◌++◌, ◌∙◌}
use Rattle.std.proofs.lemmas.Result.{on_ok_weaker}
use Rattle.miette_json.proofs.WrittenSteps.{two_steps}
use Rattle.miette_json.specs.rules.Json.{number}
use Rattle.miette_json.specs.rules.Writing.{closed, opened, with_key, with_value}
use Rattle.miette_sarif.proofs.Pieces.{located_put}
use Rattle.miette_sarif.specs.rules.Places.{place_pairs, text_pairs}
use Rattle.miette_sarif.specs.steps.Members.{with_pairs}
use Rattle.miette_sarif.specs.views.Artifacts.{artifacts_view}
use Rattle.miette_sarif.specs.views.Findings.{mark_of}
use Rattle.miette_sarif.proofs.places.push_numbered.Goals as goal

pub returns : goal.returns
returns c =
    let a = artifacts_view c.args.artifacts.now in
    let m = mark_of c.args.mark.now in
    on_ok_weaker c.end_object.result (λ put. located_put a m _ _ _ _ c.in_ok-push_further_place.ensures
    c.in_ok-push_further_text.ensures put
    ∙ ap (λ p. closed 125 (with_pairs (place_pairs a m.place ++ text_pairs m.text) p)) (two_steps (opened 123)
    (λ p. with_value (number c.args.id) (with_key (codes "id") p)) _ _ _ c.in_ok-begin_object.ensures
    c.in_ok-number_member.ensures)) c.end_object.ensures
