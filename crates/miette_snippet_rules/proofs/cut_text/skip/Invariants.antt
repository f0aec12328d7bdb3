use Rattle.std.proofs.Common.{◌≡◌, drop}
use Rattle.miette_snippet_rules.proofs.cut_text.skip.Given as goal

abbrev pub invariant-loop-left : goal.invariant-loop-left
invariant-loop-left l = drop l.left l.walk ≡ drop l.many l.fn.walk

abbrev pub decreases-loop-left : goal.decreases-loop-left
decreases-loop-left l = l.left
