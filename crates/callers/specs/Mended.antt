-- What is known of the graphical report of a fix.
use Rattle.std.specs.Prelude.{◌≡◌, ℕ, map, false, List, [], ◌∷◌, Some, None, codes, encode_utf8_all}
use Rattle.miette_fix_rows.specs.laws.Frames.{StandAmong, all_lines, at_start, new_texts, old_texts}
use Rattle.miette_fix_rows.specs.rules.Blocks.{line_texts}
use Rattle.miette_fix_rows.specs.rules.DiffFrames.{DiffFrame, frames_of}
use Rattle.miette_fix_rows.specs.rules.DiffRows.{rows_of_frames}
use Rattle.miette_fix_rows.specs.rules.Hunks.{Diff, diff}
use Rattle.miette_fixes.specs.declared.applicability.Applicability.TheVariants.{Unspecified}
use Rattle.miette_fixes.specs.rules.Edits.{FixModel}
use Rattle.miette_protocol.specs.rules.Reading.{Source, named_source, plain_source}
use Rattle.miette_protocol.specs.views.Diagnostic.{message_alone}
use Rattle.miette_tree.specs.rules.Diagnosis.{plain_diagnosis}
use Rattle.miette_tree.specs.rules.Tree.{Tree, single_report, with_fix, with_source}
use Rattle.miette_graphical_rules.specs.laws.HeldRows.{StartsRowIn}
use Rattle.miette_graphical_rules.specs.rules.DiagnosticText.{fixes_text}
use Rattle.miette_graphical_rules.specs.rules.Snippets.{drawn_fix, rows_of_fix, runs_of_row, snippet_settings}
use Rattle.callers.specs.Known.{plain}

-- ---- the report: a colon is missing at the end of the second of three lines

abbrev pub code_file : Source
code_file = named_source (plain_source (codes "def f(x):\n  if x\n    return 1\n")) (codes "f.py") None

abbrev pub colon : FixModel
colon = record {
  message = codes "a colon is missing";
  applicability = Unspecified;
  edits = record { span = record { offset = 16; len = 0 }; text = codes ":" } ∷ [];
}

abbrev pub colon_tree : Tree
colon_tree = with_fix colon (with_source code_file (single_report (plain_diagnosis (message_alone (codes "no colon")))))

-- ---- what its report is known to show

-- The text contains the fix's message and rows.
abbrev pub FixStands : List ℕ → Type 0
FixStands text = StartsRowIn (encode_utf8_all (fixes_text plain (drawn_fix plain (Some code_file) false colon ∷ [])))
    text

-- The changed lines, and the frames that show them with one context line.
abbrev pub colon_diff : Diff
colon_diff = diff code_file.bytes colon.edits

abbrev pub colon_frames : List DiffFrame
colon_frames = frames_of 1 colon_diff

-- The rows are those of the frames, which leave out unchanged lines only. Removed and unchanged lines are those of the
-- file, added and unchanged lines those of the fixed text.
pub record TellsColon : Type 0 where
  pub rows : rows_of_fix plain (Some code_file) false colon.edits
      ≡ map runs_of_row (rows_of_frames (snippet_settings plain) code_file colon.edits colon_frames)
  pub frames : StandAmong false at_start colon_frames (all_lines colon_diff)
  pub before : old_texts (all_lines colon_diff) ≡ line_texts (codes "def f(x):\n  if x\n    return 1\n")
  pub after : new_texts (all_lines colon_diff) ≡ line_texts (codes "def f(x):\n  if x:\n    return 1\n")
