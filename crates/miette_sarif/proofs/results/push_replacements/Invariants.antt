use Rattle.std.proofs.Common.{drop, map, ◌≡◌}
use Rattle.miette_json.specs.rules.Writing.{opened, with_items}
use Rattle.miette_sarif.specs.rules.Objects.{items_of}
use Rattle.miette_sarif.specs.rules.Results.{replacement}
use Rattle.miette_sarif.specs.views.Findings.{replacement_value_of}
use Rattle.miette_sarif.proofs.results.push_replacements.Given as goal

abbrev pub invariant-loop-item : goal.invariant-loop-item
invariant-loop-item l =
    with_items (items_of (map replacement (map replacement_value_of (drop l.item-index l.list)))) l.json
    ≡ with_items (items_of (map replacement (map replacement_value_of l.list))) (opened 91 l.fn.json)
