use Rattle.std.proofs.Common.{◌≡◌, ◌++◌, length}
use Rattle.miette_fix_rows.specs.rules.DiffTexts.{seen}
use Rattle.miette_fix_drawing.proofs.visible_text.seen_of.Given as goal

abbrev pub invariant-loop-made : goal.invariant-loop-made
invariant-loop-made l = l.made.items ++ seen l.walk ≡ seen l.fn.walk

abbrev pub decreases-loop-made : goal.decreases-loop-made
decreases-loop-made l = length l.walk
