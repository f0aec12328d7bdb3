-- Which columns of a whole line an underline covers, by the characters with its label's first and last byte.
use Rattle.std.specs.Prelude.{ℕ, ◌+◌, ◌-◌, ◌<◌, ◌≤◌, ◌≡◌, max, List, [], ◌∷◌, true, false}
use Rattle.std.specs.List.{Contains}
use Rattle.miette_columns.specs.rules.Cells.{Cell}
use Rattle.miette_labels.specs.rules.Labels.{is_empty}
use Rattle.miette_snippet_rules.specs.rules.Underlines.{Underline}
use Rattle.miette_snippet_rules.specs.rules.PrintedCells.{printed_cells, printed_glyphs}
use Rattle.miette_snippet_laws.specs.laws.Cuts.{glyph_at}

-- a cell contains the byte at an offset
abbrev pub HasByte : Cell → ℕ → Type 0
HasByte cell offset = (cell.start ≤ offset) × (offset < cell.after)

-- An underline begins at the first column of the cell with its label's first byte, or at `reached`, where the previous
-- underline ends, if that is later. It ends with the last column of the cell with the label's last byte, and has at
-- least one column. The underline of an empty label has exactly one.
pub record IsUnderLabel (cells : List Cell) (reached : ℕ) (mark : Underline) : Type 0 where
  pub first : (cell : Cell) → Contains cells cell → HasByte cell mark.label.start → mark.label.after_text ≡ false →
      mark.from ≡ max cell.from reached
  pub last : (cell : Cell) → Contains cells cell → mark.label.start < mark.label.after →
      HasByte cell (mark.label.after - 1) → mark.until ≡ max cell.until (mark.from + 1)
  pub empty : is_empty mark.label ≡ true → mark.until ≡ mark.from + 1

-- the same for each underline, after one that ends at a column
abbrev pub AreUnderLabels : List Cell → ℕ → List Underline → Type 0
AreUnderLabels cells reached [] = Unit {0}
AreUnderLabels cells reached (mark ∷ marks) = IsUnderLabel cells reached mark × AreUnderLabels cells mark.until marks

-- Labels that begin or end after the text, which ends at `text_end` and is `width` columns wide. A label at the end
-- begins in the column after the text, a later one in the next column. Both begin at `reached` if that is later. A
-- label that ends after the text ends with the column after it, and has at least one column.
pub record IsPastText (text_end width reached : ℕ) (mark : Underline) : Type 0 where
  pub at_end : mark.label.start ≡ text_end → mark.label.after_text ≡ false → mark.from ≡ max width reached
  pub after_end : text_end < mark.label.start → mark.label.after_text ≡ false → mark.from ≡ max (width + 1) reached
  pub last : mark.label.start < mark.label.after → text_end < mark.label.after →
      mark.until ≡ max (width + 1) (mark.from + 1)

-- the same for each underline, after one that ends at a column
abbrev pub ArePastText : ℕ → ℕ → ℕ → List Underline → Type 0
ArePastText text_end width reached [] = Unit {0}
ArePastText text_end width reached (mark ∷ marks) =
    IsPastText text_end width reached mark × ArePastText text_end width mark.until marks

-- each column of a cell prints that cell
abbrev pub CellsKeepColumns : List Cell → Type 0
CellsKeepColumns cells = (cell : Cell) → Contains cells cell → (column : ℕ) → cell.from ≤ column → column < cell.until →
    glyph_at (printed_cells cells) column ≡ glyph_at (printed_glyphs cell) (column - cell.from)
