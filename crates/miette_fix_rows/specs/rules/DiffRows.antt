-- The rows of a fix: its diff in frames.
use Rattle.std.specs.Prelude.{ℕ, ◌+◌, ◌-◌, List, [], ◌∷◌, ◌++◌, length, replicate, decimal, codes, max, min, Bool, true}
use Rattle.std.specs.Prelude.{Option, Some, None, if◌then◌else◌}
use Rattle.std.specs.Option.{option_map}
use Rattle.miette_style.specs.declared.style.Style.{Style}
use Rattle.miette_lines.specs.rules.Lines.{line_of, column_of}
use Rattle.miette_protocol.specs.rules.Reading.{Span, Source}
use Rattle.miette_style.specs.rules.Rows.{Row, styled_run, plain_run}
use Rattle.miette_snippet_rules.specs.rules.CutLines.{LinePart, cut_line, cut_line_by, dots, dots_width, limit_of}
use Rattle.miette_snippet_rules.specs.rules.CutLines.{reach_at, row_underlines, shown_runs}
use Rattle.miette_snippet_rules.specs.rules.LabelRows.{blank}
use Rattle.miette_snippet_rules.specs.rules.Frames.{Place, number_start, other_start, top_row_of, bottom_row}
use Rattle.miette_snippet_rules.specs.rules.SnippetSettings.{SnippetSettings}
use Rattle.miette_fixes.specs.declared.error.FixError.{FixError}
use Rattle.miette_fixes.specs.declared.error.FixError.TheVariants.{OutOfBounds, Overlap, Memory}
use Rattle.miette_fixes.specs.rules.Edits.{Replacement}
use Rattle.miette_fixes.specs.rules.Applying.{by_offset, edits_error}
use Rattle.miette_fix_rows.specs.rules.Hunks.{diff}
use Rattle.miette_fix_rows.specs.rules.DiffFrames.{DiffFrame, DiffLine, PairedLine, DiffPosition, kept, removed, added}
use Rattle.miette_fix_rows.specs.rules.DiffFrames.{frames_of}
use Rattle.miette_fix_rows.specs.rules.DiffTexts.{deleted_spans, edit_underlines, inserted_spans, line_cells, line_ends}
use Rattle.miette_fix_rows.specs.rules.DiffTexts.{look_alike, pieces, sign_runs}

-- What the rows of a fix are drawn with: the width of line numbers, and the deleted and inserted spans.
pub record DiffContext : Type 0 where
  pub settings : SnippetSettings
  pub number_width : ℕ
  pub deleted : List Span
  pub inserted : List Span

-- a changed line: its sign and style, its one-based number, its offset, its bytes, and the edits' spans in its text
pub record ChangedLine : Type 0 where
  pub sign : ℕ
  pub style : Style
  pub number : ℕ
  pub start : ℕ
  pub text : List ℕ
  pub spans : List Span

-- what comes before a changed line's text: its number, and its sign in place of the bar
abbrev pub sign_start : SnippetSettings → ℕ → ChangedLine → Row
sign_start s w line =
    blank s 1
    ∷ styled_run s.width s.theme.styles.linum (replicate (w - length (decimal line.number)) 32 ++ decimal line.number)
    ∷ blank s 1 ∷ styled_run s.width line.style (line.sign ∷ []) ∷ blank s 1 ∷ []

-- how many columns around the edits in a changed line fit into the limit
abbrev pub line_reach : SnippetSettings → ℕ → ChangedLine → ℕ
line_reach s limit line = reach_at (limit_of limit) (dots_width s.theme.characters)
    (line_ends s line.start line.text line.spans) (line_cells s line.start line.text)

-- the smaller reach of a line and its counterpart, so that equal text stays aligned
abbrev pub pair_reach : SnippetSettings → ℕ → ChangedLine → Option ChangedLine → ℕ
pair_reach s limit line None = line_reach s limit line
pair_reach s limit line (Some other) = min (line_reach s limit line) (line_reach s limit other)

-- how a changed line is cut, if it is
abbrev pub cut_beside : SnippetSettings → Option ℕ → ChangedLine → Option ChangedLine → Option (List LinePart)
cut_beside s None line other = None
cut_beside s (Some limit) line other =
    cut_line_by (dots_width s.theme.characters) limit (pair_reach s limit line other)
    (line_ends s line.start line.text line.spans) (line_cells s line.start line.text)

abbrev pub changed_cut : SnippetSettings → ChangedLine → Option ChangedLine → Option (List LinePart)
changed_cut s line other = cut_beside s s.layout.line_columns line other

abbrev pub changed_text_row : SnippetSettings → ℕ → ChangedLine → Option ChangedLine → Row
changed_text_row s w line other = sign_start s w line
    ++ shown_runs (dots s.theme) (changed_cut s line other)
    (pieces line.style line.spans (line_cells s line.start line.text)) (line_cells s line.start line.text)

-- the underline row of a line that looks like its counterpart; none if it has no underline
abbrev pub row_if_some : Row → List Row
row_if_some [] = []
row_if_some (run ∷ row) = (run ∷ row) ∷ []

abbrev pub before_some : Row → List Row → List Row
before_some start [] = []
before_some start (row ∷ rows) = (start ++ row) ∷ before_some start rows

abbrev pub edit_underline_row : SnippetSettings → ℕ → ChangedLine → Option ChangedLine → List Row
edit_underline_row s w line other = before_some (other_start s w) (row_if_some (sign_runs s line.sign 0
    (row_underlines (dots_width s.theme.characters) (changed_cut s line other)
    (edit_underlines s line.start line.text line.style line.spans))))

abbrev pub changed_rows : SnippetSettings → ℕ → ChangedLine → Option ChangedLine → List Row
changed_rows s w line other = changed_text_row s w line other
    ∷ (if look_alike s line.text (option_map (λ it. it.text) other) then edit_underline_row s w line other else [])

abbrev pub kept_row : SnippetSettings → ℕ → DiffPosition → List ℕ → Row
kept_row s w at text = number_start s w (at.old_line + 1)
    ++ shown_runs (dots s.theme)
    (cut_line (dots_width s.theme.characters) s.layout.line_columns [] (line_cells s at.old_offset text)) []
    (line_cells s at.old_offset text)

abbrev pub removed_line : DiffContext → DiffPosition → List ℕ → ChangedLine
removed_line c at text = record {
  sign = 45;  -- '-'
  style = c.settings.theme.styles.error;
  number = at.old_line + 1;
  start = at.old_offset;
  text = text;
  spans = c.deleted;
}

abbrev pub added_line : DiffContext → DiffPosition → List ℕ → ChangedLine
added_line c at text = record {
  sign = 43;  -- '+'
  style = c.settings.theme.styles.advice;
  number = at.new_line + 1;
  start = at.new_offset;
  text = text;
  spans = c.inserted;
}

-- the counterparts of changed lines: the added one of a removed line, and the removed one of an added line
abbrev pub added_beside : DiffContext → DiffPosition → PairedLine → ChangedLine
added_beside c at other = record (added_line c at other.text) { start = at.new_offset + other.away }

abbrev pub removed_beside : DiffContext → DiffPosition → PairedLine → ChangedLine
removed_beside c at other = record (removed_line c at other.text) { start = at.old_offset - other.away }

-- the position after a line
abbrev pub past : DiffPosition → DiffLine → DiffPosition
past at (kept text) = record {
  old_line = at.old_line + 1;
  new_line = at.new_line + 1;
  old_offset = at.old_offset + length text;
  new_offset = at.new_offset + length text;
}
past at (removed text other) =
    record at { old_line = at.old_line + 1; old_offset = at.old_offset + length text }
past at (added text other) =
    record at { new_line = at.new_line + 1; new_offset = at.new_offset + length text }

abbrev pub rows_of_diff_line : DiffContext → DiffPosition → DiffLine → List Row
rows_of_diff_line c at (kept text) = kept_row c.settings c.number_width at text ∷ []
rows_of_diff_line c at (removed text other) =
    changed_rows c.settings c.number_width (removed_line c at text) (option_map (added_beside c at) other)
rows_of_diff_line c at (added text other) =
    changed_rows c.settings c.number_width (added_line c at text) (option_map (removed_beside c at) other)

abbrev pub rows_of_diff_lines : DiffContext → DiffPosition → List DiffLine → List Row
rows_of_diff_lines c at [] = []
rows_of_diff_lines c at (line ∷ lines) = rows_of_diff_line c at line ++ rows_of_diff_lines c (past at line) lines

-- the largest line number in a frame
abbrev pub number_of : DiffPosition → DiffLine → ℕ
number_of at (kept text) = at.old_line + 1
number_of at (removed text other) = at.old_line + 1
number_of at (added text other) = at.new_line + 1

abbrev pub largest_number : DiffPosition → List DiffLine → ℕ
largest_number at [] = 0
largest_number at (line ∷ lines) = max (number_of at line) (largest_number (past at line) lines)

abbrev pub frame_width : DiffFrame → ℕ
frame_width frame = length (decimal (largest_number frame.at frame.lines))

abbrev pub place_at : List ℕ → ℕ → Place
place_at source offset = record { line = line_of source offset; column = column_of source offset }

abbrev pub diff_context : SnippetSettings → List Replacement → DiffFrame → DiffContext
diff_context s edits frame = record {
  settings = s;
  number_width = frame_width frame;
  deleted = deleted_spans edits;
  inserted = inserted_spans edits;
}

abbrev pub frame_rows : SnippetSettings → Source → List Replacement → DiffFrame → List Row
frame_rows s source edits frame =
    top_row_of s (frame_width frame) source.name true (Some (place_at source.bytes frame.place))
    ∷ rows_of_diff_lines (diff_context s edits frame) frame.at frame.lines
    ++ bottom_row s (frame_width frame) ∷ []

abbrev pub rows_of_frames : SnippetSettings → Source → List Replacement → List DiffFrame → List Row
rows_of_frames s source edits [] = []
rows_of_frames s source edits (frame ∷ frames) =
    frame_rows s source edits frame ++ rows_of_frames s source edits frames

-- ---- the rows of a fix

-- the row that replaces the frames if the fix can't be applied, with the name of the error
abbrev pub refused_fix_row : SnippetSettings → List ℕ → Row
refused_fix_row s name =
    plain_run s.width (codes "  [") ∷ styled_run s.width s.theme.styles.error (codes "Failed to apply fix")
    ∷ plain_run s.width (codes ": ") ∷ styled_run s.width s.theme.styles.warning name
    ∷ plain_run s.width (codes "]") ∷ []

abbrev pub error_name : FixError → List ℕ
error_name (OutOfBounds edit) = codes "OutOfBounds"
error_name (Overlap first second) = codes "Overlap"
error_name Memory = codes "Memory"

-- the frames of edits that can be applied
abbrev pub fix_rows_unless : SnippetSettings → Source → List Replacement → Option FixError → List Row
fix_rows_unless s source edits (Some error) = refused_fix_row s (error_name error) ∷ []
fix_rows_unless s source edits None =
    rows_of_frames s source (by_offset edits) (frames_of s.layout.context_lines (diff source.bytes edits))

-- The rows below a fix's message. Without edits there are none. If the fix can't be applied, or the read of its lines
-- fails with `IoError`, there is one row. Else there are its frames, none if nothing changes.
abbrev pub fix_rows : SnippetSettings → Source → Bool → List Replacement → List Row
fix_rows s source read_fails [] = []
fix_rows s source read_fails (edit ∷ edits) =
    if read_fails then refused_fix_row s (codes "IoError") ∷ []
    else fix_rows_unless s source (edit ∷ edits) (edits_error (length source.bytes) (edit ∷ edits))
