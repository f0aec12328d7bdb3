use Rattle.std.proofs.Common.{Global, List, String, ap, codes, map, refl, ◌∙◌}
use Rattle.std.proofs.lemmas.Result.{on_ok_weaker}
use Rattle.miette_json.proofs.WrittenSteps.{two_steps}
use Rattle.miette_json.specs.rules.Json.{Json}
use Rattle.miette_json.specs.rules.Writing.{with_key, with_value}
use Rattle.miette_sarif.proofs.Growing.{none_put, some_put}
use Rattle.miette_sarif.specs.rules.Artifacts.{artifact}
use Rattle.miette_sarif.specs.rules.Objects.{array_of, listed, pair}
use Rattle.miette_sarif.specs.steps.Members.{with_pairs}
use Rattle.miette_sarif.specs.views.Findings.{texts_of}
use Rattle.miette_sarif.proofs.artifacts.Artifacts.push_all.Goals as goal

abbrev values : List (String Global) → List Json
values uris = map artifact (texts_of uris)

pub returns-then-is_empty : goal.returns-then-is_empty
returns-then-is_empty c =
    let old = c.args.json.now in
    none_put c.as_slice-uris.result.now (λ us. listed (codes "artifacts") (values us)) old c.is_empty.result refl
    c.is_empty.ensures c.if-is_empty.true
    ∙ ap (λ us. with_pairs (listed (codes "artifacts") (values us)) old) c.as_slice-uris.ensures.keys

pub returns : goal.returns
returns c =
    let old = c.args.json.now in
    let uris = c.as_slice-uris.result.now in
    on_ok_weaker c.push_artifacts.result (λ put. some_put uris (λ us. pair (codes "artifacts") (array_of (values us)))
    (λ us. listed (codes "artifacts") (values us)) old _ c.is_empty.result (λ u us. refl) c.is_empty.ensures
    c.if-is_empty.false (two_steps (with_key (codes "artifacts")) (with_value (array_of (values uris))) old _ _
    c.in_ok-key.ensures put)
    ∙ ap (λ us. with_pairs (listed (codes "artifacts") (values us)) old) c.as_slice-uris.ensures.keys)
    c.push_artifacts.ensures
