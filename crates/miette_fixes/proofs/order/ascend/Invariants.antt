use Rattle.std.proofs.Common.{◌≡◌, drop}
use Rattle.miette_fixes.specs.steps.Sweeping.{ascends, ascends_after}
use Rattle.miette_fixes.specs.views.Ordered.{edits_of}
use Rattle.miette_fixes.proofs.order.ascend.Given as goal

abbrev pub invariant-loop-edit : goal.invariant-loop-edit
invariant-loop-edit l = ascends_after l.before (edits_of (drop l.edit-index l.rest)) ≡ ascends (edits_of l.edits)
