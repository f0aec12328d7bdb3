-- A line of a snippet, in code.
use Rattle.std.specs.Prelude.{ℕ, ◌+◌, ◌-◌, ◌^◌, ◌<◌, ◌≤◌, ◌≡◌, List, ◌∷◌, length, map, drop, Option, Bool}
use Rattle.miette_lines.specs.rules.Lines.{Line, lines_from}
use Rattle.miette_lines.specs.declared.lines.LineOfText.{LineOfText}
use Rattle.miette_lines.specs.views.Walking.{line_of_text}
use Rattle.miette_snippet_folds.specs.declared.folds.LabelExtent.{LabelExtent as MadeExtent}
use Rattle.miette_snippet_folds.specs.declared.left_out.FoldedLines.{FoldedLines}
use Rattle.miette_snippet_folds.specs.views.Folding.{fold_in}
use Rattle.miette_snippet_rules.specs.rules.FoldedLabels.{LabelExtent, leaves_out, line_at}

-- the lines of the snippet
abbrev pub lines_of_bytes : FoldedLines → List Line
lines_of_bytes lines = lines_from lines.start lines.bytes.now

-- the line and those after it follow the first `place` lines
abbrev pub IsThere : FoldedLines → ℕ → LineOfText → Type 0
IsThere lines place line = drop place (lines_of_bytes lines)
    ≡ line_of_text line ∷ lines_from line.end (drop (line.end - lines.start) lines.bytes.now)

-- the line is there, and all numbers are in range
pub record IsPlaced (lines : FoldedLines) (place : ℕ) (line : LineOfText) : Type 0 where
  pub small : lines.start + length lines.bytes.now < 2 ^ 64
  pub next : place + 1 < 2 ^ 64
  pub low : lines.start ≤ line.end
  pub there : IsThere lines place line

-- the folds are labels among these lines
abbrev pub AreAmong : FoldedLines → List MadeExtent → Type 0
AreAmong lines labels = lines.folds.now ≡ map (fold_in lines.start lines.bytes.now) labels

-- whether the previous line is left out; false for the first line
abbrev pub was_left_out : Option ℕ → FoldedLines → ℕ → List LabelExtent → Bool
was_left_out limit lines place labels =
    leaves_out limit (lines_of_bytes lines) labels (place - 1) (line_at (lines_of_bytes lines) (place - 1))
