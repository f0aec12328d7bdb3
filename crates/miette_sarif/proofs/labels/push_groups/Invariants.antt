use Rattle.std.proofs.Common.{◌≡◌, ◌++◌, map}
use Rattle.miette_sarif.specs.rules.Marks.{marks_of}
use Rattle.miette_sarif.specs.views.Findings.{mark_of}
use Rattle.miette_sarif.specs.views.Grouped.{groups_in}
use Rattle.miette_sarif.proofs.labels.push_groups.Given as goal

abbrev pub invariant-loop-group : goal.invariant-loop-group
invariant-loop-group l =
    map mark_of l.locations.items ≡ map mark_of l.fn.locations.items ++ marks_of (groups_in l.yielded)
