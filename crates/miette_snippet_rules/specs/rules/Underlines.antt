-- The underlines of one-line labels, sorted by offset.
use Rattle.std.specs.Prelude.{ℕ, ◌+◌, ◌/◌, ◌<◌, ◌≤◌, max, List, [], ◌∷◌, ◌&&◌, nat_lt, nat_le, if◌then◌else◌}
use Rattle.std.specs.List.{filter}
use Rattle.miette_labels.specs.rules.Labels.{DrawnLabel, is_empty}
use Rattle.miette_snippet_rules.specs.rules.PrintedCells.{first_column, last_column}
use Rattle.miette_columns.specs.rules.Cells.{Cell}

-- a line's text: its cells, its end, and its width in columns
pub record MeasuredText : Type 0 where
  pub cells : List Cell
  pub text_end : ℕ
  pub width : ℕ

-- an underline from one column up to another, with the column of its pointer
pub record Underline : Type 0 where
  pub from : ℕ
  pub until : ℕ
  pub pointer : ℕ
  pub label : DrawnLabel

-- the column of a label's first byte; for a label drawn after the text, the column after it
abbrev pub label_from : MeasuredText → DrawnLabel → ℕ
label_from text label = if label.after_text then text.width
    else first_column text.cells text.text_end text.width label.start

abbrev pub underline_from : MeasuredText → ℕ → DrawnLabel → ℕ
underline_from text reached label = max (label_from text label) reached

abbrev pub underline_until : MeasuredText → ℕ → DrawnLabel → ℕ
underline_until text reached label =
    if is_empty label then underline_from text reached label + 1
    else max (last_column text.cells text.text_end text.width label.after) (underline_from text reached label + 1)

-- the middle column, rounded down
abbrev pub underline_pointer : MeasuredText → ℕ → DrawnLabel → ℕ
underline_pointer text reached label = (underline_from text reached label + underline_until text reached label) / 2

-- each underline begins at its label's first column, or where the previous underline ends if that is later
abbrev pub underlines_from : MeasuredText → ℕ → List DrawnLabel → List Underline
underlines_from text reached [] = []
underlines_from text reached (label ∷ labels) =
    record {
      from = underline_from text reached label;
      until = underline_until text reached label;
      pointer = underline_pointer text reached label;
      label = label;
    }
    ∷ underlines_from text (underline_until text reached label) labels

abbrev pub marks : MeasuredText → List DrawnLabel → List Underline
marks text labels = underlines_from text 0 labels

-- the pointer is one of the underline's columns, so the underline isn't empty
abbrev pub HasPointer : Underline → Type 0
HasPointer mark = (mark.from ≤ mark.pointer) × (mark.pointer < mark.until)

-- each underline has its pointer, and begins where the previous one ends or later
abbrev pub AreApart : ℕ → List Underline → Type 0
AreApart reached [] = Unit {0}
AreApart reached (mark ∷ marks) = (reached ≤ mark.from) × HasPointer mark × AreApart mark.until marks

-- the underlines that cover a column
abbrev pub underlines_at : ℕ → List Underline → List Underline
underlines_at column marks = filter (λ mark. nat_le mark.from column && nat_lt column mark.until) marks
