use Rattle.std.proofs.Common.{drop, map, ◌≡◌}
use Rattle.miette_json.specs.rules.Writing.{opened, with_items}
use Rattle.miette_sarif.specs.rules.Artifacts.{artifact}
use Rattle.miette_sarif.specs.rules.Objects.{items_of}
use Rattle.miette_sarif.specs.views.Findings.{texts_of}
use Rattle.miette_sarif.proofs.artifacts.push_artifacts.Given as goal

abbrev pub invariant-loop-uri : goal.invariant-loop-uri
invariant-loop-uri l =
    with_items (items_of (map artifact (texts_of (drop l.uri-index l.uris)))) l.json
    ≡ with_items (items_of (map artifact (texts_of l.uris))) (opened 91 l.fn.json)
