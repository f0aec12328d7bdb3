use Rattle.std.proofs.Common.{◌≡◌, ◌++◌, replicate}
use Rattle.miette_fix_drawing.proofs.visible_text.push_spaces.Given as goal

abbrev pub invariant-loop-left : goal.invariant-loop-left
invariant-loop-left l = l.seen.items ++ replicate l.left 32 ≡ l.fn.seen.items ++ replicate l.fn.many 32

abbrev pub decreases-loop-left : goal.decreases-loop-left
decreases-loop-left l = l.left
