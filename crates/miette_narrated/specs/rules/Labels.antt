-- The lines that describe labels, below a source line.
use Rattle.std.specs.Prelude.{ℕ, ◌+◌, ◌-◌, ◌==◌, min, max, List, [], ◌∷◌, ◌++◌, Option, Some, None, Bool, ◌&&◌, ◌||◌}
use Rattle.std.specs.Prelude.{if◌then◌else◌, nat_le, decimal, codes}
use Rattle.miette_lines.specs.rules.Lines.{Line}
use Rattle.miette_protocol.specs.views.Meaning.{Label}
use Rattle.miette_columns.specs.rules.Cells.{Character}
use Rattle.miette_labels.specs.rules.Contexts.{end_of_span}
use Rattle.miette_columns.specs.rules.Columns.{column}

-- a text and a line feed
abbrev pub row : List ℕ → List ℕ
row text = text ++ 10 ∷ []

-- a label up to its drawn end, and its text
pub record LabelRange : Type 0 where
  pub start : ℕ
  pub after : ℕ
  pub text : Option (List ℕ)

-- a label over a source of `n` bytes; its end is at most the source's
abbrev pub label_range : ℕ → Label → LabelRange
label_range n label = record {
  start = label.span.offset;
  after = max label.span.offset (min (end_of_span label.span) n);
  text = label.text;
}

-- a line of a snippet: its offsets, its number, whether it is the snippet's last, where the snippet's data ends, and
-- its characters
pub record SnippetLine : Type 0 where
  pub line : Line
  pub number : ℕ
  pub is_last : Bool
  pub data_end : ℕ
  pub characters : List Character

-- Whether an offset is on the line or after it, and whether it is at or before the end of the text.
abbrev pub reaches_line : SnippetLine → ℕ → Bool
reaches_line it at = nat_le it.line.start at

abbrev pub begins_before_text_end : SnippetLine → ℕ → Bool
begins_before_text_end it start = nat_le start it.line.text_end

-- a label ends at or before the end of the text; on the last line, a label that begins in the data counts as ending
-- there
abbrev pub ends_before : SnippetLine → ℕ → ℕ → Bool
ends_before it start after = nat_le after it.line.text_end || (it.is_last && nat_le start it.data_end)

-- the number of the label's first column, from 1
abbrev pub first_number : SnippetLine → ℕ → ℕ
first_number it start = column (start - it.line.start) it.characters + 1

-- the number of its last column, from 1; an empty label has one column
abbrev pub last_number : SnippetLine → ℕ → ℕ → ℕ
last_number it start after = if start == after then first_number it start
    else column (after - it.line.start) it.characters

-- `: end`
abbrev pub text_after : Option (List ℕ) → List ℕ
text_after None = []
text_after (Some text) = codes ": " ++ text

-- `, column 3`, or `, columns 2 to 3`
abbrev pub columns_text : ℕ → ℕ → List ℕ
columns_text a b = if a == b then codes ", column " ++ decimal a
    else codes ", columns " ++ (decimal a ++ (codes " to " ++ decimal b))

-- a label that begins and ends on the line, one that begins there, and one that ends there
abbrev pub whole_row : SnippetLine → LabelRange → List ℕ
whole_row it d = row (codes "    label at line "
    ++ (decimal it.number ++ (columns_text (first_number it d.start) (last_number it d.start d.after)
    ++ text_after d.text)))

abbrev pub column_row : List ℕ → SnippetLine → ℕ → LabelRange → List ℕ
column_row words it column d = row (words
    ++ (decimal it.number ++ (codes ", column " ++ (decimal column ++ text_after d.text))))

abbrev pub start_row : SnippetLine → LabelRange → List ℕ
start_row it d = column_row (codes "    label starting at line ") it (first_number it d.start) d

abbrev pub end_row : SnippetLine → LabelRange → List ℕ
end_row it d = column_row (codes "    label ending at line ") it (last_number it d.start d.after) d

-- the one of these that describes a label below a line, if any
abbrev pub begun_row : SnippetLine → LabelRange → List ℕ
begun_row it d = if ends_before it d.start d.after then whole_row it d
    else (if begins_before_text_end it d.start then start_row it d else [])

abbrev pub reaching_row : SnippetLine → LabelRange → List ℕ
reaching_row it d = if ends_before it d.start d.after then end_row it d else []

abbrev pub label_row : SnippetLine → LabelRange → List ℕ
label_row it d = if reaches_line it d.start then begun_row it d
    else (if reaches_line it d.after then reaching_row it d else [])

abbrev pub label_rows : SnippetLine → List LabelRange → List ℕ
label_rows it [] = []
label_rows it (d ∷ ds) = label_row it d ++ label_rows it ds
