use Rattle.std.proofs.Common.{drop, map, ◌≡◌}
use Rattle.miette_json.specs.rules.Writing.{opened, with_items}
use Rattle.miette_sarif.specs.rules.Objects.{items_of}
use Rattle.miette_sarif.specs.rules.Places.{related_from}
use Rattle.miette_sarif.specs.views.Artifacts.{artifacts_view}
use Rattle.miette_sarif.specs.views.Findings.{mark_of}
use Rattle.miette_sarif.proofs.results.push_related.Given as goal

abbrev pub invariant-loop-mark : goal.invariant-loop-mark
invariant-loop-mark l = with_items
    (items_of (related_from (artifacts_view l.artifacts) l.id (map mark_of (drop l.mark-index l.locations)))) l.json
    ≡ with_items (items_of (related_from (artifacts_view l.artifacts) 1 (map mark_of l.locations)))
    (opened 91 l.fn.json)
