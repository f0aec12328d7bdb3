-- The frames of a diff among all its lines.
use Rattle.std.specs.Prelude.{◌≡◌, ◌<◌, ℕ, List, [], ◌∷◌, ◌++◌, length, Bool, true}
use Rattle.miette_fix_rows.specs.rules.DiffFrames.{DiffFrame, DiffLine, DiffPosition, kept, removed, added}
use Rattle.miette_fix_rows.specs.rules.DiffFrames.{changed_lines}
use Rattle.miette_fix_rows.specs.rules.DiffFrames.{kept_lines}
use Rattle.miette_fix_rows.specs.rules.DiffRows.{past}
use Rattle.miette_fix_rows.specs.rules.Hunks.{Diff, Hunk}

-- all lines of a diff, in order: those of its hunks, and the unchanged ones after the last hunk
abbrev pub lines_with : List (List ℕ) → List Hunk → List DiffLine
lines_with after [] = kept_lines after
lines_with after (hunk ∷ hunks) =
    kept_lines hunk.kept ++ (changed_lines hunk.changes ++ lines_with after hunks)

abbrev pub all_lines : Diff → List DiffLine
all_lines diff = lines_with diff.after_hunks diff.hunks

-- those lines that are in the source, and those that are in the applied text
abbrev pub old_texts : List DiffLine → List (List ℕ)
old_texts [] = []
old_texts (kept text ∷ lines) = text ∷ old_texts lines
old_texts (removed text other ∷ lines) = text ∷ old_texts lines
old_texts (added text other ∷ lines) = old_texts lines

abbrev pub new_texts : List DiffLine → List (List ℕ)
new_texts [] = []
new_texts (kept text ∷ lines) = text ∷ new_texts lines
new_texts (removed text other ∷ lines) = new_texts lines
new_texts (added text other ∷ lines) = text ∷ new_texts lines

-- the position after lines
abbrev pub past_lines : DiffPosition → List DiffLine → DiffPosition
past_lines at [] = at
past_lines at (line ∷ lines) = past_lines (past at line) lines

abbrev pub at_start : DiffPosition
at_start = record { old_line = 0; new_line = 0; old_offset = 0; new_offset = 0 }

-- Frames are in order among all lines. Only unchanged lines are left out, and at least one between two frames. Each
-- frame knows its position in the diff.
abbrev pub StandAmong : Bool → DiffPosition → List DiffFrame → List DiffLine → Type 0
StandAmong goes_on at [] lines = (left : List (List ℕ)) × (lines ≡ kept_lines left)
StandAmong goes_on at (frame ∷ frames) lines =
    (left : List (List ℕ)) × (rest : List DiffLine)
    × (lines ≡ kept_lines left ++ (frame.lines ++ rest))
    × (frame.at ≡ past_lines at (kept_lines left))
    × (goes_on ≡ true → 0 < length left)
    × StandAmong true (past_lines frame.at frame.lines) frames rest
