use Rattle.std.proofs.Common.{◌≡◌, ◌++◌, drop, map}
use Rattle.miette_sarif.specs.rules.Marks.{marks_from}
use Rattle.miette_sarif.specs.views.Findings.{mark_of}
use Rattle.miette_sarif.specs.views.Grouped.{labels_in}
use Rattle.miette_sarif.specs.views.Sources.{over_of}
use Rattle.miette_sarif.proofs.labels.push_marks.Given as goal

abbrev pub invariant-loop-label : goal.invariant-loop-label
invariant-loop-label l = map mark_of l.locations.items
    ++ marks_from (over_of l.seen) (labels_in (drop l.label-index l.labels))
    ≡ map mark_of l.fn.locations.items ++ marks_from (over_of l.seen) (labels_in l.labels)
