use Rattle.std.proofs.Common.{ap, arith, drop, map, string_bytes, ◌+◌, ◌∙◌}
use Rattle.std.proofs.lemmas.Result.{on_ok_weaker}
use Rattle.miette_json.proofs.WrittenSteps.{item_put, list_put}
use Rattle.miette_json.specs.rules.Writing.{with_value}
use Rattle.miette_sarif.proofs.Gathers.{next_in, none_in}
use Rattle.miette_sarif.specs.rules.Artifacts.{artifact}
use Rattle.miette_sarif.specs.rules.Objects.{items_of}
use Rattle.miette_sarif.specs.views.Findings.{texts_of}
use Rattle.miette_sarif.proofs.artifacts.push_artifacts.Goals as goal

pub loop-uri-preserved : goal.loop-uri-preserved
loop-uri-preserved c =
    let l = c.loop-uri in
    let uris = c.args.uris.now in
    item_put (items_of (map artifact (texts_of (drop l.uri-index uris))))
    (items_of (map artifact (texts_of (drop (l.uri-index + 1) uris)))) (artifact (string_bytes c.uri-item.result))
    l.json c.push_artifact.new.json _ (ap (λ ts. items_of (map artifact ts)) (next_in string_bytes uris l.uri-index
    c.uri-item.result c.loop-uri-test.true c.uri-item.is))
    (c.in_ok-push_artifact.ensures ∙ ap (λ t. with_value (artifact t) l.json) c.as_str.ensures.value) l.invariant

pub returns : goal.returns
returns c =
    let l = c.loop-uri in
    let uris = c.args.uris.now in
    on_ok_weaker c.end_list.result (list_put (items_of (map artifact (texts_of (drop l.uri-index uris))))
    (items_of (map artifact (texts_of uris))) c.args.json.now l.json _ (ap (λ ts. items_of (map artifact ts))
    (none_in string_bytes uris l.uri-index (omega arith))) l.invariant) c.end_list.ensures
