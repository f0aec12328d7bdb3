use Rattle.std.proofs.Common.{◌≡◌, ◌-◌, length}
use Rattle.miette_fixes.specs.rules.Applying.{index_from}
use Rattle.miette_fixes.proofs.apply.index_from.Given as goal

abbrev pub invariant-loop-index : goal.invariant-loop-index
invariant-loop-index l = index_from l.index l.edit l.edits ≡ index_from l.fn.from l.edit l.edits

abbrev pub decreases-loop-index : goal.decreases-loop-index
decreases-loop-index l = length l.edits - l.index
