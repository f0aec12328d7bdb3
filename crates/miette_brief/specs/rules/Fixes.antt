-- The lines of a report's fixes.
use Rattle.std.specs.Prelude.{ℕ, ◌+◌, ◌-◌, ◌==◌, List, [], ◌∷◌, ◌++◌, length, map, Bool, if◌then◌else◌, Option, Some}
use Rattle.std.specs.Prelude.{None, codes}
use Rattle.std.specs.Option.{option_map_or}
use Rattle.miette_lines.specs.rules.Lines.{line_of, line_start, column_of}
use Rattle.miette_protocol.specs.rules.Reading.{Source}
use Rattle.miette_fixes.specs.declared.error.FixError.{FixError}
use Rattle.miette_fixes.specs.declared.error.FixError.TheVariants.{OutOfBounds, Overlap, Memory}
use Rattle.miette_fixes.specs.rules.Applying.{by_offset, edits_error}
use Rattle.miette_fixes.specs.rules.Edits.{FixModel, Replacement, end_of}
use Rattle.miette_brief.specs.declared.fix_its.LineColumn.{LineColumn}
use Rattle.miette_brief.specs.rules.Rows.{BriefLocation, ReportRow, told, applied, fix, failure}

-- ---- where an edit lies

-- the position of an offset, from 1; the column counts bytes of text
abbrev pub line_column_at : List ℕ → ℕ → LineColumn
line_column_at bytes at = record { line = line_of bytes at + 1; column = column_of bytes at + 1 }

-- the same; the column also counts bytes of the terminator
abbrev pub byte_line_column_at : List ℕ → ℕ → LineColumn
byte_line_column_at bytes at = record {
  line = line_of bytes at + 1;
  column = at - line_start bytes (line_of bytes at)
      + 1;
}

-- ---- the source of a fix

-- no source, one that could not be read, or the name and the bytes of one
pub data BriefFixOrigin : Type 0 where
  no_source : BriefFixOrigin
  unread : BriefFixOrigin
  read : Option (List ℕ) → List ℕ → BriefFixOrigin

-- a source, and whether its read for fixes failed
abbrev pub brief_fix_origin : Option Source → Bool → BriefFixOrigin
brief_fix_origin None fails = no_source
brief_fix_origin (Some source) fails = if fails then unread else read source.name source.bytes

-- ---- edits

abbrev pub fix_it_row : Option (List ℕ) → List ℕ → Replacement → ReportRow
fix_it_row name bytes edit = applied (record {
  name = name;
  start = byte_line_column_at bytes edit.span.offset;
  end = byte_line_column_at bytes (end_of edit);
  text = edit.text;
})

-- the position at which an edit begins, as for a label
abbrev pub edit_location : Option (List ℕ) → List ℕ → Replacement → BriefLocation
edit_location name bytes edit = record { name = name; position = Some (line_column_at bytes edit.span.offset) }

-- ---- fixes

-- the message of a fix, at a location
abbrev pub fix_row : BriefLocation → List ℕ → ReportRow
fix_row at message = told (record { place = at; kind = fix; text = message })

-- the reason why a fix can't be applied
abbrev pub fix_failure_row : BriefLocation → List ℕ → ReportRow
fix_failure_row at reason = told (record { place = at; kind = failure; text = reason })

abbrev pub failed_rows : BriefLocation → List ℕ → List ℕ → List ReportRow
failed_rows at message reason = fix_row at message ∷ fix_failure_row at reason ∷ []

abbrev pub fix_failure_reason : FixError → List ℕ
fix_failure_reason (OutOfBounds edit) = codes "OutOfBounds"
fix_failure_reason (Overlap first second) = codes "Overlap"
fix_failure_reason Memory = codes "Memory"

-- a fix with these edits by offset; it is at the first of them, or at `at` if there is none
abbrev pub applied_fix_rows : BriefLocation → Option (List ℕ) → List ℕ → List ℕ → List Replacement → List ReportRow
applied_fix_rows at name bytes message [] = fix_row at message ∷ []
applied_fix_rows at name bytes message (edit ∷ edits) =
    fix_row (edit_location name bytes edit) message ∷ map (fix_it_row name bytes) (edit ∷ edits)

-- a fix of a source with these bytes; its edits may turn out not to apply
abbrev pub rows_in : BriefLocation → Option (List ℕ) → List ℕ → FixModel → List ReportRow
rows_in at name bytes proposal =
    option_map_or (λ e. failed_rows at proposal.message (fix_failure_reason e))
    (edits_error (length bytes) proposal.edits)
    (applied_fix_rows at name bytes proposal.message (by_offset proposal.edits))

abbrev pub brief_rows_over : BriefLocation → BriefFixOrigin → FixModel → List ReportRow
brief_rows_over at no_source proposal = fix_row at proposal.message ∷ []
brief_rows_over at unread proposal = failed_rows at proposal.message (codes "IoError")
brief_rows_over at (read name bytes) proposal = rows_in at name bytes proposal

-- a fix of a diagnostic at a location; a fix without edits is printed there
abbrev pub brief_fix_rows : BriefLocation → BriefFixOrigin → FixModel → List ReportRow
brief_fix_rows at over proposal =
    if length proposal.edits == 0 then fix_row at proposal.message ∷ [] else brief_rows_over at over proposal

abbrev pub brief_fixes_rows : BriefLocation → BriefFixOrigin → List FixModel → List ReportRow
brief_fixes_rows at over [] = []
brief_fixes_rows at over (proposal ∷ proposals) = brief_fix_rows at over proposal ++ brief_fixes_rows at over proposals
