-- Theorems about the diff of each printed fix.
use Rattle.std.specs.Prelude.{◌≡◌, List, map, length, None, false, true, IfSome, Some}
use Rattle.std.specs.List.{AllByRecursion}
use Rattle.miette_fix_rows.specs.laws.Context.{lines_of_frames, shown_lines}
use Rattle.miette_fix_rows.specs.laws.Frames.{StandAmong, all_lines, at_start, new_texts, old_texts}
use Rattle.miette_fix_rows.specs.laws.Whole.{IsTrimmedChange}
use Rattle.miette_fix_rows.specs.rules.Blocks.{line_texts}
use Rattle.miette_fix_rows.specs.rules.DiffFrames.{frames_of}
use Rattle.miette_fix_rows.specs.rules.DiffRows.{rows_of_frames}
use Rattle.miette_fix_rows.specs.rules.Hunks.{changes, diff}
use Rattle.miette_fixes.specs.rules.Applying.{applied, by_offset, edits_error}
use Rattle.miette_fixes.specs.rules.Edits.{Replacement}
use Rattle.miette_protocol.specs.rules.Reading.{Source}
use Rattle.miette_graphical_rules.specs.rules.PrintedDiagnostics.{PrintedDiagnostic}
use Rattle.miette_graphical_rules.specs.rules.GraphicalSettings.{GraphicalSettings}
use Rattle.miette_graphical_rules.specs.rules.Snippets.{rows_of_fix, runs_of_row, snippet_settings}

-- The rows of edits that can be applied are the frames of what they change, in order and without repetition. A frame's
-- line numbers count all lines before it. Only unchanged lines are left out: those with no changed line among their
-- context lines. The removed and unchanged lines are exactly the source's. The added and unchanged ones are exactly the
-- applied text's. The lines of a change have no common line at their start or end.
pub record TellsChanges (s : GraphicalSettings) (source : Source) (edits : List Replacement) : Type 0 where
  pub rows : rows_of_fix s (Some source) false edits
      ≡ map runs_of_row (rows_of_frames (snippet_settings s) source (by_offset edits)
      (frames_of s.layout.context_lines (diff source.bytes edits)))
  pub frames : StandAmong false at_start (frames_of s.layout.context_lines (diff source.bytes edits))
      (all_lines (diff source.bytes edits))
  pub shown : lines_of_frames (frames_of s.layout.context_lines (diff source.bytes edits))
      ≡ shown_lines s.layout.context_lines (all_lines (diff source.bytes edits))
  pub before : old_texts (all_lines (diff source.bytes edits)) ≡ line_texts source.bytes
  pub after : new_texts (all_lines (diff source.bytes edits)) ≡ line_texts (applied source.bytes edits)
  pub trimmed : AllByRecursion IsTrimmedChange (changes source.bytes edits)

-- for each fix of a printed diagnostic that can be applied, over a source that always reads
abbrev pub FixesAreTold : GraphicalSettings → PrintedDiagnostic → Type 0
FixesAreTold s p =
    IfSome p.source (λ source.
    source.always_reads ≡ true → AllByRecursion (λ fix. edits_error (length source.bytes) fix.edits ≡ None
    → TellsChanges s source fix.edits) p.meaning.fixes)
