-- Each printed fix that can be applied shows its changes.
use Rattle.std.proofs.Common.{◌≡◌, ℕ, List, [], ◌∷◌, length, map, Option, Some, None, IfSome, false, true, refl, ap}
use Rattle.std.proofs.Common.{◌∙◌}
use Rattle.std.specs.List.{AllByRecursion}
use Rattle.miette_fix_rows.specs.laws.Context.{lines_of_frames, shown_lines}
use Rattle.miette_fix_rows.specs.laws.Frames.{StandAmong, all_lines, at_start, new_texts, old_texts}
use Rattle.miette_fix_rows.specs.laws.Whole.{IsTrimmedChange}
use Rattle.miette_fix_rows.specs.rules.Blocks.{line_texts}
use Rattle.miette_fix_rows.specs.rules.DiffFrames.{frames_of}
use Rattle.miette_fix_rows.specs.rules.DiffRows.{rows_of_frames, fix_rows_unless}
use Rattle.miette_fix_rows.specs.rules.Hunks.{Diff, changes, diff, lines_after, lines_before}
use Rattle.miette_fixes.specs.rules.Applying.{applied, by_offset, edits_error}
use Rattle.miette_fixes.specs.rules.Edits.{FixModel, Replacement}
use Rattle.miette_protocol.specs.rules.Reading.{Source}
use Rattle.miette_graphical_rules.specs.laws.FixDiffs.{FixesAreTold, TellsChanges}
use Rattle.miette_graphical_rules.specs.rules.PrintedDiagnostics.{PrintedDiagnostic}
use Rattle.miette_graphical_rules.specs.rules.GraphicalSettings.{GraphicalSettings}
use Rattle.miette_graphical_rules.specs.rules.Snippets.{rows_of_fix, runs_of_row, snippet_settings}

-- the clauses of the laws of what a fix changes
pub record ChangeLaws : Type 0 where
  pub source : (source : List ℕ) (edits : List Replacement) → edits_error (length source) edits ≡ None
      → lines_before (diff source edits) ≡ line_texts source
  pub applied_text : (source : List ℕ) (edits : List Replacement) → edits_error (length source) edits ≡ None
      → lines_after (diff source edits) ≡ line_texts (applied source edits)
  pub trimmed : (source : List ℕ) (edits : List Replacement) → AllByRecursion IsTrimmedChange (changes source edits)
  pub frames : (context : ℕ) (d : Diff) → StandAmong false at_start (frames_of context d) (all_lines d)
  pub shown : (context : ℕ) (source : List ℕ) (edits : List Replacement)
      → lines_of_frames (frames_of context (diff source edits)) ≡ shown_lines context (all_lines (diff source edits))
  pub old : (d : Diff) → old_texts (all_lines d) ≡ lines_before d
  pub new : (d : Diff) → new_texts (all_lines d) ≡ lines_after d

framed : (s : GraphicalSettings) (source : Source) (edits : List Replacement) → edits_error (length source.bytes) edits
    ≡ None
    → rows_of_fix s (Some source) false edits ≡ map runs_of_row (rows_of_frames (snippet_settings s) source
    (by_offset edits) (frames_of s.layout.context_lines (diff source.bytes edits)))
framed s source [] h = refl
framed s source (edit ∷ edits) h =
    ap (λ refused. map runs_of_row (fix_rows_unless (snippet_settings s) source (edit ∷ edits) refused)) h

tells : ChangeLaws → (s : GraphicalSettings) (source : Source) (edits : List Replacement)
    → edits_error (length source.bytes) edits ≡ None → TellsChanges s source edits
tells laws s source edits h = record {
  rows = framed s source edits h;
  frames = laws.frames s.layout.context_lines (diff source.bytes edits);
  shown = laws.shown s.layout.context_lines source.bytes edits;
  before = laws.old (diff source.bytes edits) ∙ laws.source source.bytes edits h;
  after = laws.new (diff source.bytes edits) ∙ laws.applied_text source.bytes edits h;
  trimmed = laws.trimmed source.bytes edits;
}

all_tell : ChangeLaws → (s : GraphicalSettings) (source : Source) (fixes : List FixModel)
    → AllByRecursion (λ (fix : FixModel). edits_error (length source.bytes) fix.edits ≡ None
    → TellsChanges s source fix.edits) fixes
all_tell laws s source [] = tt
all_tell laws s source (fix ∷ fixes) = (tells laws s source fix.edits, all_tell laws s source fixes)

over_source : ChangeLaws → (s : GraphicalSettings) (source : Option Source) (fixes : List FixModel)
    → IfSome source (λ it. it.always_reads ≡ true → AllByRecursion (λ (fix : FixModel).
    edits_error (length it.bytes) fix.edits ≡ None → TellsChanges s it fix.edits) fixes)
over_source laws s None fixes = tt
over_source laws s (Some source) fixes = λ reads. all_tell laws s source fixes

pub fixes_told : ChangeLaws → (s : GraphicalSettings) (ps : List PrintedDiagnostic) → AllByRecursion (FixesAreTold s) ps
fixes_told laws s [] = tt
fixes_told laws s (p ∷ ps) = (over_source laws s p.source p.meaning.fixes, fixes_told laws s ps)
