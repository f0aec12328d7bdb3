use Rattle.std.proofs.Common.{◌≡◌, drop}
use Rattle.miette_fixes.specs.steps.Sweeping.{crossing, crossing_after}
use Rattle.miette_fixes.specs.views.Ordered.{edits_of}
use Rattle.miette_fixes.proofs.apply.find_overlap.Given as goal

abbrev pub invariant-loop-edit : goal.invariant-loop-edit
invariant-loop-edit l =
    crossing_after l.edits l.before (edits_of (drop l.edit-index l.rest)) ≡ crossing l.edits (edits_of l.sorted)
