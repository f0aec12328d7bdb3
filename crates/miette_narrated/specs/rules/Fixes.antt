-- The lines of a report's fixes.
use Rattle.std.specs.Prelude.{ℕ, ◌+◌, ◌-◌, ◌==◌, max, List, [], ◌∷◌, ◌++◌, length, Bool, if◌then◌else◌, Option, Some}
use Rattle.std.specs.Prelude.{None, decimal, codes, slice_get, slice_range}
use Rattle.std.specs.Option.{option_map_or}
use Rattle.json.specs.Print.{quoted}
use Rattle.miette_columns.specs.rules.Cells.{characters}
use Rattle.miette_columns.specs.rules.Columns.{column}
use Rattle.miette_lines.specs.rules.Lines.{line_of, line_start, lines_of}
use Rattle.miette_protocol.specs.rules.Reading.{Source}
use Rattle.miette_fixes.specs.declared.error.FixError.{FixError}
use Rattle.miette_fixes.specs.declared.error.FixError.TheVariants.{OutOfBounds, Overlap, Memory}
use Rattle.miette_fixes.specs.rules.Applying.{by_offset, edits_error}
use Rattle.miette_fixes.specs.rules.Edits.{FixModel, Replacement, end_of}
use Rattle.miette_narrated.specs.rules.Labels.{row, columns_text}

-- ---- where an edit lies

-- the text of line k, counted from 0; empty if there is no such line
abbrev pub numbered_line_text : List ℕ → ℕ → List ℕ
numbered_line_text bytes k = option_map_or (λ l. slice_range bytes l.start l.text_end) (slice_get (lines_of bytes) k) []

-- the position of an offset: its line number, from 1, and the number of columns before it on that line
pub record EditPlace : Type 0 where
  pub line : ℕ
  pub before : ℕ

abbrev pub edit_place_at : List ℕ → ℕ → EditPlace
edit_place_at bytes at = record {
  line = line_of bytes at + 1;
  before = column (at - line_start bytes (line_of bytes at)) (characters (numbered_line_text bytes (line_of bytes at)));
}

-- `line 2, columns 5 to 6`: the first and the last column, at least the first
abbrev pub near_text : EditPlace → EditPlace → List ℕ
near_text from to =
    codes "line " ++ (decimal from.line ++ columns_text (from.before + 1) (max (from.before + 1) to.before))

-- `line 2, column 5`: the column of the character there
abbrev pub point_text : EditPlace → List ℕ
point_text at = codes "line " ++ (decimal at.line ++ (codes ", column " ++ decimal (at.before + 1)))

-- `from line 2, column 5 to line 3, column 1`: the first column, and the column after the last character
abbrev pub far_text : EditPlace → EditPlace → List ℕ
far_text from to = codes "from " ++ (point_text from ++ (codes " to " ++ point_text to))

abbrev pub span_text : EditPlace → EditPlace → List ℕ
span_text from to = if from.line == to.line then near_text from to else far_text from to

-- ---- edits

-- the verb of an edit: insert if it deletes no bytes, else delete if it has no text, else replace
abbrev pub verb_text : Replacement → List ℕ
verb_text edit =
    if edit.span.len == 0 then codes "    insert at "
    else (if length edit.text == 0 then codes "    delete " else codes "    replace ")

-- the text of an edit as a JSON string
abbrev pub edit_text_part : Replacement → List ℕ
edit_text_part edit =
    if edit.span.len == 0 then codes ": " ++ quoted edit.text
    else (if length edit.text == 0 then [] else codes " with: " ++ quoted edit.text)

-- `    replace line 2, column 5 with: "a\n"`
abbrev pub edit_row : List ℕ → Replacement → List ℕ
edit_row bytes edit =
    row (verb_text edit
    ++ (span_text (edit_place_at bytes edit.span.offset) (edit_place_at bytes (end_of edit)) ++ edit_text_part edit))

abbrev pub edit_rows : List ℕ → List Replacement → List ℕ
edit_rows bytes [] = []
edit_rows bytes (edit ∷ edits) = edit_row bytes edit ++ edit_rows bytes edits

-- ---- fixes

-- the source that fixes apply to: none, one that could not be read, or its bytes
pub data NarratedFixOrigin : Type 0 where
  no_source : NarratedFixOrigin
  unread : NarratedFixOrigin
  read : List ℕ → NarratedFixOrigin

-- a source, and whether its read for fixes failed
abbrev pub narrated_fix_origin : Option Source → Bool → NarratedFixOrigin
narrated_fix_origin None fails = no_source
narrated_fix_origin (Some source) fails = if fails then unread else read source.bytes

-- `    failed to apply: OutOfBounds`
abbrev pub failure_row : List ℕ → List ℕ
failure_row reason = row (codes "    failed to apply: " ++ reason)

abbrev pub reason_text : FixError → List ℕ
reason_text (OutOfBounds edit) = codes "OutOfBounds"
reason_text (Overlap first second) = codes "Overlap"
reason_text Memory = codes "Memory"

-- a line for each edit by offset, or the reason why they can't be applied
abbrev pub applied_rows : List ℕ → List Replacement → List ℕ
applied_rows bytes edits =
    option_map_or (λ e. failure_row (reason_text e)) (edits_error (length bytes) edits)
    (edit_rows bytes (by_offset edits))

abbrev pub rows_over_origin : NarratedFixOrigin → List Replacement → List ℕ
rows_over_origin no_source edits = []
rows_over_origin unread edits = failure_row (codes "IoError")
rows_over_origin (read bytes) edits = applied_rows bytes edits

-- a fix: its message, and its edits if it has any
abbrev pub narrated_fix_rows : NarratedFixOrigin → FixModel → List ℕ
narrated_fix_rows over fix =
    row (codes "diagnostic fix: " ++ fix.message) ++ (if length fix.edits == 0 then [] else rows_over_origin over
    fix.edits)

abbrev pub narrated_fixes_rows : NarratedFixOrigin → List FixModel → List ℕ
narrated_fixes_rows over [] = []
narrated_fixes_rows over (fix ∷ fixes) = narrated_fix_rows over fix ++ narrated_fixes_rows over fixes
