use Rattle.std.proofs.Common.{length}
use Rattle.miette_lint.specs.rules.Fixes.{wide_line, wide_lines}
use Rattle.miette_lint.proofs.LeftSteps.{AreToCount}
use Rattle.miette_lint.proofs.remaining.wide_count.Given as goal

abbrev pub invariant-loop-line : goal.invariant-loop-line
invariant-loop-line l = AreToCount (wide_line l.source l.width) (length l.source) l.line-iterator l.count
    (length (wide_lines l.source l.width))
