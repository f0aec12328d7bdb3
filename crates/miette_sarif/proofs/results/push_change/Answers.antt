use Rattle.std.proofs.Common.{ap, codes, map, ◌∙◌}
use Rattle.std.proofs.lemmas.Result.{on_ok_weaker}
use Rattle.miette_json.proofs.WrittenSteps.{six_steps}
use Rattle.miette_json.specs.rules.Writing.{closed, opened, with_key, with_value}
use Rattle.miette_sarif.specs.rules.Artifacts.{artifact_location}
use Rattle.miette_sarif.specs.rules.Objects.{array_of}
use Rattle.miette_sarif.specs.rules.Results.{replacement}
use Rattle.miette_sarif.specs.views.Artifacts.{artifacts_view}
use Rattle.miette_sarif.specs.views.Findings.{applicable_fix_of, replacement_value_of}
use Rattle.miette_sarif.proofs.results.push_change.Goals as goal

pub returns : goal.returns
returns c =
    let fix = applicable_fix_of c.args.fix.now in
    let key = c.key-2.new.self in
    on_ok_weaker c.end_object.result (six_steps (opened 123) (with_key (codes "artifactLocation"))
    (with_value (artifact_location (artifacts_view c.args.artifacts.now) fix.source)) (with_key (codes "replacements"))
    (with_value (array_of (map replacement fix.replacements))) (closed 125) _ _ _ _ _ _ _
    c.in_ok-begin_object.ensures c.in_ok-key.ensures c.in_ok-push_artifact_location.ensures c.in_ok-key-2.ensures
    (c.in_ok-push_replacements.ensures
    ∙ ap (λ rs. with_value (array_of (map replacement (map replacement_value_of rs))) key) c.deref.ensures.value))
    c.end_object.ensures
