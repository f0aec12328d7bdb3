-- A changed line in code.
use Rattle.std.specs.Prelude.{ℕ, ◌≡◌, ◌+◌, ◌<◌, ◌≤◌, ◌^◌, List, length, Option, Some, None}
use Rattle.std.specs.List.{filter, list_any}
use Rattle.miette_columns.specs.rules.Cells.{Cell}
use Rattle.miette_style.specs.declared.style.Style.{Style}
use Rattle.miette_fix_rows.specs.rules.DiffTexts.{holds_byte, is_on, parts_in}
use Rattle.miette_fix_drawing.specs.steps.Spans.{AreApart}
use Rattle.miette_fix_rows.specs.rules.DiffRows.{ChangedLine}
use Rattle.miette_fix_drawing.specs.declared.changed_line.ChangedLine.{ChangedLine as MadeChangedLine}

abbrev pub changed_line_of : MadeChangedLine → ChangedLine
changed_line_of line = record {
  sign = line.sign;
  style = line.style;
  number = line.number;
  start = line.start;
  text = line.text.now;
  spans = line.spans.now;
}

-- all offsets of a counterpart are in range
abbrev pub IsReadable : MadeChangedLine → Type 0
IsReadable line = (line.start + length line.text.now < 2 ^ 64) × AreApart line.spans.now

-- Without the spans that end before the line: the line has the same spans in its bytes, and the same edits touch it.
pub record IsNear (line near : MadeChangedLine) : Type 0 where
  pub is : changed_line_of near ≡ record (changed_line_of line) { spans = near.spans.now }
  pub apart : AreApart near.spans.now
  pub held : (cell : Cell) → line.start ≤ cell.start →
      list_any (holds_byte cell) near.spans.now ≡ list_any (holds_byte cell) line.spans.now
  pub parts : (bytes : ℕ) (style : Style) →
      parts_in line.start bytes style near.spans.now ≡ parts_in line.start bytes style line.spans.now
  pub on : (text : List ℕ) →
      filter (is_on line.start text) near.spans.now ≡ filter (is_on line.start text) line.spans.now

abbrev pub AreBothNear : Option MadeChangedLine → Option MadeChangedLine → Type 0
AreBothNear None None = Unit {0}
AreBothNear None (Some near) = ⊥
AreBothNear (Some line) None = ⊥
AreBothNear (Some line) (Some near) = IsNear line near
