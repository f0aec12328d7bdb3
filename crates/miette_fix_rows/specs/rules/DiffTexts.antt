-- The text of a shown line: what edits delete and insert in it, its styles, and the underlines of lines that look
-- alike.
use Rattle.std.specs.Prelude.{ℕ, ◌+◌, ◌-◌, List, [], ◌∷◌, ◌++◌, length, map, min, max, replicate}
use Rattle.std.specs.Prelude.{Bool, false, not, ◌&&◌, ◌||◌, ◌==◌, nat_lt, nat_le, if◌then◌else◌, Option, Some, None}
use Rattle.std.specs.List.{list_any, filter, take_while}
use Rattle.std.specs.Str.{bytes_eq}
use Rattle.std.specs.Char.{is_whitespace}
use Rattle.miette_style.specs.declared.style.Style.{Style}
use Rattle.miette_style.specs.rules.Styles.{plain}
use Rattle.miette_lines.specs.rules.Lines.{is_text}
use Rattle.miette_protocol.specs.rules.Reading.{Span}
use Rattle.miette_labels.specs.rules.Answers.{Highlight}
use Rattle.miette_labels.specs.rules.Labels.{DrawnLabel}
use Rattle.miette_style.specs.rules.Rows.{Row, glyph_of}
use Rattle.miette_columns.specs.rules.Cells.{Cell, characters, cells_from}
use Rattle.miette_snippet_rules.specs.rules.LabelRows.{blank}
use Rattle.miette_snippet_rules.specs.rules.Underlines.{Underline, MeasuredText, marks}
use Rattle.miette_snippet_rules.specs.rules.PrintedCells.{cells_width, first_column, text_bytes}
use Rattle.miette_snippet_rules.specs.rules.SnippetSettings.{SnippetSettings}
use Rattle.miette_fixes.specs.rules.Edits.{Replacement, end_of}

-- ---- what edits delete and insert

abbrev pub deleted_spans : List Replacement → List Span
deleted_spans edits = map (λ edit. edit.span) edits

-- the spans of inserted texts in the applied text, after `old` bytes of the source and `new` bytes of the applied text
abbrev pub inserted_from : ℕ → ℕ → List Replacement → List Span
inserted_from old new [] = []
inserted_from old new (edit ∷ edits) =
    record { offset = new + (edit.span.offset - old); len = length edit.text }
    ∷ inserted_from (end_of edit) (new + (edit.span.offset - old) + length edit.text) edits

abbrev pub inserted_spans : List Replacement → List Span
inserted_spans edits = inserted_from 0 0 edits

-- ---- a line and its cells

-- a line without its terminator
abbrev pub without_terminator : List ℕ → List ℕ
without_terminator line = take_while is_text line

abbrev pub line_cells : SnippetSettings → ℕ → List ℕ → List Cell
line_cells s start line = cells_from s.width s.layout.tab_width false start 0 (characters (without_terminator line))

-- ---- styles

abbrev pub holds_byte : Cell → Span → Bool
holds_byte cell span =
    nat_lt 0 span.len && (nat_lt cell.start (span.offset + span.len) && nat_lt span.offset cell.after)

-- consecutive characters that are all changed by edits or all unchanged
pub record DiffPiece : Type 0 where
  pub changed : Bool
  pub bytes : ℕ

abbrev pub prepend_piece : Bool → ℕ → List DiffPiece → List DiffPiece
prepend_piece changed bytes [] = record { changed = changed; bytes = bytes } ∷ []
prepend_piece changed bytes (next ∷ later) =
    if (if changed then next.changed else not next.changed) then record next { bytes = bytes + next.bytes } ∷ later
    else record { changed = changed; bytes = bytes } ∷ next ∷ later

abbrev pub diff_pieces : List Span → List Cell → List DiffPiece
diff_pieces spans [] = []
diff_pieces spans (cell ∷ cells) =
    prepend_piece (list_any (holds_byte cell) spans) (text_bytes cell.code) (diff_pieces spans cells)

-- a line's text in pieces: changed characters in this style, the others plain
abbrev pub pieces : Style → List Span → List Cell → List Highlight
pieces style spans cells =
    map (λ p. record { bytes = p.bytes; style = if p.changed then style else plain }) (diff_pieces spans cells)

-- ---- underlines

-- the part of a span in a line that begins at an offset and has `bytes` bytes
abbrev pub part_in : ℕ → ℕ → Style → Span → DrawnLabel
part_in start bytes style span = record {
  start = max start span.offset;
  after = min (start + bytes) (span.offset + span.len);
  style = style;
  parts = [];
  after_text = false;
}

abbrev pub has_bytes : DrawnLabel → Bool
has_bytes part = nat_lt part.start part.after

abbrev pub parts_in : ℕ → ℕ → Style → List Span → List DrawnLabel
parts_in start bytes style spans = filter has_bytes (map (part_in start bytes style) spans)

-- the underlines of what edits delete or insert in a line, in the columns of labels over the same spans
abbrev pub measured_line : SnippetSettings → ℕ → List ℕ → MeasuredText
measured_line s start line = record {
  cells = line_cells s start line;
  text_end = start + length (without_terminator line);
  width = cells_width 0 (line_cells s start line);
}

abbrev pub edit_underlines : SnippetSettings → ℕ → List ℕ → Style → List Span → List Underline
edit_underlines s start line style spans = marks (measured_line s start line) (parts_in start (length line) style spans)

-- a row of underlines, each after the spaces before it
abbrev pub sign_runs : SnippetSettings → ℕ → ℕ → List Underline → Row
sign_runs s sign reached [] = []
sign_runs s sign reached (mark ∷ marks) =
    blank s (mark.from - reached)
    ∷ record { style = mark.label.style; glyphs = replicate (mark.until - mark.from) (glyph_of s.width sign) }
    ∷ sign_runs s sign mark.until marks

-- ---- lines that look alike

-- what is visible of characters: white space as spaces, nothing for characters without columns
abbrev pub seen : List Cell → List ℕ
seen [] = []
seen (cell ∷ cells) =
    if cell.code == 9 || is_whitespace cell.code then replicate (cell.until - cell.from) 32 ++ seen cells
    else if cell.from == cell.until then seen cells
    else cell.code ∷ seen cells

-- without spaces at the end
abbrev pub onto_seen : ℕ → List ℕ → List ℕ
onto_seen code [] = if code == 32 then [] else code ∷ []
onto_seen code (next ∷ later) = code ∷ next ∷ later

abbrev pub without_blanks : List ℕ → List ℕ
without_blanks [] = []
without_blanks (code ∷ codes) = onto_seen code (without_blanks codes)

abbrev pub look : SnippetSettings → List ℕ → List ℕ
look s line = without_blanks (seen (line_cells s 0 line))

abbrev pub look_alike : SnippetSettings → List ℕ → Option (List ℕ) → Bool
look_alike s line None = false
look_alike s line (Some other) = not (bytes_eq line other) && bytes_eq (look s line) (look s other)

-- ---- cut lines

-- Whether an edit belongs to a line: it touches the line. What follows a terminator belongs to the next line.
abbrev pub is_on : ℕ → List ℕ → Span → Bool
is_on start line span =
    nat_le start (span.offset + span.len)
    && (nat_lt span.offset (start + length line)
    || ((span.offset == start + length line) && (length (without_terminator line) == length line)))

-- the columns of what an edit deletes or inserts in a line
abbrev pub ends_at : List Underline → List ℕ
ends_at [] = []
ends_at (mark ∷ marks) = mark.from ∷ (mark.until - 1) ∷ ends_at marks

-- the column of an edit in a line; the line's start if the edit begins before it
abbrev pub edit_column : SnippetSettings → ℕ → List ℕ → Span → ℕ
edit_column s start line span =
    first_column (line_cells s start line) (start + length (without_terminator line))
    (cells_width 0 (line_cells s start line))
    (max start span.offset)

-- The columns around which a changed line is cut: the first and last column of what each edit deletes or inserts in it.
-- An edit with nothing in the line has one column, where it is.
abbrev pub edit_ends : SnippetSettings → ℕ → List ℕ → List Span → List ℕ
edit_ends s start line [] = []
edit_ends s start line (span ∷ spans) =
    (if has_bytes (part_in start (length line) plain span)
    then ends_at (edit_underlines s start line plain (span ∷ []))
    else edit_column s start line span ∷ [])
    ++ edit_ends s start line spans

abbrev pub line_ends : SnippetSettings → ℕ → List ℕ → List Span → List ℕ
line_ends s start line spans = edit_ends s start line (filter (is_on start line) spans)
