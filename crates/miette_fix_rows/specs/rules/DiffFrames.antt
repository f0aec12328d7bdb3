-- Which lines of a diff are shown, and in which frames.
use Rattle.std.specs.Prelude.{ℕ, ◌+◌, ◌-◌, List, [], ◌∷◌, ◌++◌, length, map, take, drop, Option, Some, None}
use Rattle.std.specs.Prelude.{Bool, true, false, ◌&&◌, nat_le, if◌then◌else◌}
use Rattle.miette_fix_rows.specs.rules.Hunks.{Change, Hunk, Diff, removed_lines, added_lines}
use Rattle.miette_fix_rows.specs.rules.Blocks.{bytes_of}

-- The counterpart of a changed line, with its terminator, and its position among adjacent changes. For an added line,
-- `away` bytes of added lines come before it. A removed line begins `away` bytes before the end of the removed lines.
pub record PairedLine : Type 0 where
  pub text : List ℕ
  pub away : ℕ

abbrev pub paired_line : List ℕ → ℕ → PairedLine
paired_line text away = record { text = text; away = away }

-- A shown line with its terminator: unchanged, removed or added. A changed line may have a counterpart: the first
-- removed line of a block goes with the first added one, and so on.
pub data DiffLine : Type 0 where
  kept : List ℕ → DiffLine
  removed : List ℕ → Option PairedLine → DiffLine
  added : List ℕ → Option PairedLine → DiffLine

-- removed lines with their added counterparts, after `away` bytes of added lines
abbrev pub removed_with : ℕ → List (List ℕ) → List (List ℕ) → List DiffLine
removed_with away [] others = []
removed_with away (line ∷ lines) [] = removed line None ∷ removed_with away lines []
removed_with away (line ∷ lines) (other ∷ others) =
    removed line (Some (paired_line other away)) ∷ removed_with (away + length other) lines others

-- added lines with their removed counterparts, which begin `away` bytes before the end of the removed lines
abbrev pub added_with : ℕ → List (List ℕ) → List (List ℕ) → List DiffLine
added_with away [] others = []
added_with away (line ∷ lines) [] = added line None ∷ added_with away lines []
added_with away (line ∷ lines) (other ∷ others) =
    added line (Some (paired_line other away)) ∷ added_with (away - length other) lines others

abbrev pub kept_lines : List (List ℕ) → List DiffLine
kept_lines lines = map (λ line. kept line) lines

abbrev pub removed_from : ℕ → List Change → List DiffLine
removed_from away [] = []
removed_from away (change ∷ changes) =
    removed_with away change.removed change.added ++ removed_from (away + bytes_of change.added) changes

abbrev pub added_from : ℕ → List Change → List DiffLine
added_from away [] = []
added_from away (change ∷ changes) =
    added_with away change.added change.removed ++ added_from (away - bytes_of change.removed) changes

-- of adjacent changes, all removed lines come first
abbrev pub changed_lines : List Change → List DiffLine
changed_lines changes = removed_from 0 changes ++ added_from (bytes_of (removed_lines changes)) changes

-- how many lines and bytes of the source and of the applied text come before a line
pub record DiffPosition : Type 0 where
  pub old_line : ℕ
  pub new_line : ℕ
  pub old_offset : ℕ
  pub new_offset : ℕ

abbrev pub past_kept : DiffPosition → List (List ℕ) → DiffPosition
past_kept at lines = record {
  old_line = at.old_line + length lines;
  new_line = at.new_line + length lines;
  old_offset = at.old_offset + bytes_of lines;
  new_offset = at.new_offset + bytes_of lines;
}

abbrev pub past_changes : DiffPosition → List Change → DiffPosition
past_changes at changes = record {
  old_line = at.old_line + length (removed_lines changes);
  new_line = at.new_line + length (added_lines changes);
  old_offset = at.old_offset + bytes_of (removed_lines changes);
  new_offset = at.new_offset + bytes_of (added_lines changes);
}

abbrev pub past_hunk : DiffPosition → Hunk → DiffPosition
past_hunk at hunk = past_changes (past_kept at hunk.kept) hunk.changes

-- a frame: its position, the offset it points to, and its lines
pub record DiffFrame : Type 0 where
  pub at : DiffPosition
  pub place : ℕ
  pub lines : List DiffLine

-- whether all unchanged lines between two hunks are shown: there are no more than the context of both
abbrev pub is_near_hunk : ℕ → Hunk → Bool
is_near_hunk context hunk = nat_le (length hunk.kept) (context + context)

-- the lines of a frame after a hunk
abbrev pub after_hunk : ℕ → List (List ℕ) → List Hunk → List DiffLine
after_hunk context after [] = kept_lines (take context after)
after_hunk context after (hunk ∷ hunks) =
    if is_near_hunk context hunk
    then (kept_lines hunk.kept ++ (changed_lines hunk.changes ++ after_hunk context after hunks))
    else kept_lines (take context hunk.kept)

-- how many of the lines before a hunk aren't shown with it
abbrev pub left_before : ℕ → Hunk → ℕ
left_before context hunk = length hunk.kept - context

abbrev pub first_place : List Change → ℕ
first_place [] = 0
first_place (change ∷ changes) = change.place

abbrev pub frame_at : ℕ → DiffPosition → Hunk → List DiffLine → DiffFrame
frame_at context at hunk later = record {
  at = past_kept at (take (left_before context hunk) hunk.kept);
  place = first_place hunk.changes;
  lines = kept_lines (drop (left_before context hunk) hunk.kept) ++ (changed_lines hunk.changes ++ later);
}

-- The frames of hunks. Each changed line has its context lines around it, and a frame ends where an unchanged line is
-- left out. The flag says whether a frame may continue.
abbrev pub frames_from : ℕ → List (List ℕ) → Bool → DiffPosition → List Hunk → List DiffFrame
frames_from context after goes_on at [] = []
frames_from context after goes_on at (hunk ∷ hunks) =
    if goes_on && is_near_hunk context hunk then frames_from context after true (past_hunk at hunk) hunks
    else frame_at context at hunk (after_hunk context after hunks)
    ∷ frames_from context after true (past_hunk at hunk) hunks

abbrev pub frames_of : ℕ → Diff → List DiffFrame
frames_of context diff = frames_from context diff.after_hunks false
    (record { old_line = 0; new_line = 0; old_offset = 0; new_offset = 0 }) diff.hunks
