use Rattle.std.proofs.Common.{ap, refl, ◌∙◌}
use Rattle.std.proofs.lemmas.Result.{on_ok_weaker}
use Rattle.std.specs.Prelude.{unwrap_or}
use Rattle.miette_json.specs.rules.Writing.{with_value}
use Rattle.miette_sarif.proofs.Keys.{position_texts}
use Rattle.miette_sarif.proofs.Pieces.{located_is}
use Rattle.miette_sarif.specs.views.Findings.{texts_of}
use Rattle.miette_sarif.proofs.artifacts.Artifacts.push_artifact_location.Goals as goal

pub returns : goal.returns
returns c =
    let uris = c.args.self.now.uris.keys in
    let text = c.as_str-text.result.now in
    let index = c.unwrap_or-index.ensures
    ∙ ap (λ o. unwrap_or o 0) (c.get_index_of.ensures.index ∙ position_texts text uris) in
    on_ok_weaker c.push_artifact_location_at.result (λ put. put ∙ ap (λ v. with_value v c.args.json.now)
    (located_is _ text _ (texts_of uris) c.unwrap_or-index.result refl index
    (c.as_str-text.ensures.value ∙ c.in_ok-uri.ensures))) c.push_artifact_location_at.ensures
