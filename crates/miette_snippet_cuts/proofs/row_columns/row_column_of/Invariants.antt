use Rattle.std.proofs.Common.{◌-◌, ◌≤◌, length}
use Rattle.miette_snippet_cuts.specs.steps.Moving.{IsRowCursor}
use Rattle.miette_snippet_cuts.proofs.row_columns.row_column_of.Given as goal

abbrev pub invariant-loop-place : goal.invariant-loop-place
invariant-loop-place l = record { place : IsRowCursor l.dots l.cut l.place; before : l.place.before ≤ l.column }

abbrev pub decreases-loop-place : goal.decreases-loop-place
decreases-loop-place l = length l.cut - l.place.passed
