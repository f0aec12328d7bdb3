use Rattle.std.proofs.Common.{◌≡◌, drop}
use Rattle.miette_json.specs.rules.JsonReport.{labels_json}
use Rattle.miette_json.specs.rules.Writing.{opened, with_items}
use Rattle.miette_json.proofs.labels.push_labels.Given as goal

abbrev pub invariant-loop-label : goal.invariant-loop-label
invariant-loop-label l =
    with_items (labels_json (drop l.label-index l.labels)) l.json
    ≡ with_items (labels_json l.labels) (opened 91 l.fn.json)
