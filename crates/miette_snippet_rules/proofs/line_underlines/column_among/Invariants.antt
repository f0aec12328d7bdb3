use Rattle.std.proofs.Common.{◌≡◌, ℕ, length}
use Rattle.miette_snippet_rules.specs.steps.ColumnStops.{column_in}
use Rattle.miette_snippet_rules.proofs.line_underlines.column_among.Given as goal

abbrev pub invariant-loop-cell : goal.invariant-loop-cell
invariant-loop-cell l = (text_end width : ℕ) → column_in l.rounding l.walk text_end width l.offset
    ≡ column_in l.rounding l.fn.walk text_end width l.offset

abbrev pub decreases-loop-cell : goal.decreases-loop-cell
decreases-loop-cell l = length l.walk
