-- What a fix changes: removed, added and unchanged lines.
use Rattle.std.specs.Prelude.{ℕ, suc, ◌+◌, ◌-◌, List, [], ◌∷◌, ◌++◌, length, take, drop, reverse, slice_range, max}
use Rattle.std.specs.Prelude.{Bool, true, false, ◌&&◌, if◌then◌else◌}
use Rattle.std.specs.List.{flat_map}
use Rattle.std.specs.Str.{bytes_eq}
use Rattle.miette_fixes.specs.rules.Edits.{Replacement}
use Rattle.miette_fixes.specs.rules.Applying.{by_offset}
use Rattle.miette_fix_rows.specs.rules.Blocks.{line_texts, bytes_of, block_from, blocks, old_lines, new_lines}

-- how many lines two lists have in common at their start
abbrev pub common : List (List ℕ) → List (List ℕ) → ℕ
common [] others = 0
common (line ∷ lines) [] = 0
common (line ∷ lines) (other ∷ others) = if bytes_eq line other then suc (common lines others) else 0

-- The lines of a block with their terminators: unchanged ones at its start, removed and added ones, and unchanged ones
-- at its end.
pub record BlockDiff : Type 0 where
  pub front : List (List ℕ)
  pub removed : List (List ℕ)
  pub added : List (List ℕ)
  pub ending : List (List ℕ)

-- splits the old and new lines, of which `before` at the start and `after` at the end are unchanged
abbrev pub block_diff_at : List (List ℕ) → List (List ℕ) → ℕ → ℕ → BlockDiff
block_diff_at olds news after before = record {
  front = take before olds;
  removed = drop before (take (length olds - after) olds);
  added = drop before (take (length news - after) news);
  ending = drop (length olds - after) olds;
}

-- how many lines are common at the end, and then at the start
abbrev pub common_after : List (List ℕ) → List (List ℕ) → ℕ
common_after olds news = common (reverse olds) (reverse news)

abbrev pub common_before : List (List ℕ) → List (List ℕ) → ℕ → ℕ
common_before olds news after = common (take (length olds - after) olds) (take (length news - after) news)

abbrev pub block_diff : List (List ℕ) → List (List ℕ) → BlockDiff
block_diff olds news =
    block_diff_at olds news (common_after olds news) (common_before olds news (common_after olds news))

-- The change of a block: the bounds of its removed lines in the source, the offset its frame points to, and its removed
-- and added lines.
pub record Change : Type 0 where
  pub from : ℕ
  pub to : ℕ
  pub place : ℕ
  pub removed : List (List ℕ)
  pub added : List (List ℕ)

abbrev pub first_offset : List Replacement → ℕ
first_offset [] = 0
first_offset (edit ∷ edits) = edit.span.offset

-- It points to its first edit, or to its first removed line if that is later. If no line is removed, the added lines
-- begin there.
abbrev pub change_at : ℕ → ℕ → BlockDiff → Change
change_at from first lines = record {
  from = from + bytes_of lines.front;
  to = from + bytes_of lines.front + bytes_of lines.removed;
  place = max first (from + bytes_of lines.front);
  removed = lines.removed;
  added = lines.added;
}

abbrev pub change_of : List ℕ → List Replacement → Change
change_of source block = change_at (block_from source block) (first_offset block)
    (block_diff (old_lines source block) (new_lines source block))

abbrev pub has_no_lines : List (List ℕ) → Bool
has_no_lines [] = true
has_no_lines (line ∷ lines) = false

-- a change without removed or added lines is dropped
abbrev pub onto_changes : Change → List Change → List Change
onto_changes change changes = if has_no_lines change.removed && has_no_lines change.added then changes else change
    ∷ changes

abbrev pub changes_of : List ℕ → List (List Replacement) → List Change
changes_of source [] = []
changes_of source (block ∷ blocks) = onto_changes (change_of source block) (changes_of source blocks)

-- what edits change, block by block
abbrev pub changes : List ℕ → List Replacement → List Change
changes source edits = changes_of source (blocks source (by_offset edits))

-- Adjacent changes, and the unchanged lines before them.
pub record Hunk : Type 0 where
  pub kept : List (List ℕ)
  pub changes : List Change

-- all lines: hunks, and the unchanged lines after the last one
pub record Diff : Type 0 where
  pub hunks : List Hunk
  pub after_hunks : List (List ℕ)

-- adds unchanged lines in front
abbrev pub onto_kept : List (List ℕ) → List Hunk → List (List ℕ) → Diff
onto_kept lines [] after = record { hunks = []; after_hunks = lines ++ after }
onto_kept lines (hunk ∷ hunks) after =
    record { hunks = record hunk { kept = lines ++ hunk.kept } ∷ hunks; after_hunks = after }

abbrev pub with_kept : List (List ℕ) → Diff → Diff
with_kept lines diff = onto_kept lines diff.hunks diff.after_hunks

-- adds a change in front; it joins the first hunk if that begins without unchanged lines
abbrev pub onto_hunks : Change → List Hunk → List Hunk
onto_hunks change [] = record { kept = []; changes = change ∷ [] } ∷ []
onto_hunks change (hunk ∷ hunks) =
    if has_no_lines hunk.kept then record { kept = []; changes = change ∷ hunk.changes } ∷ hunks
    else record { kept = []; changes = change ∷ [] } ∷ hunk ∷ hunks

abbrev pub with_change : Change → Diff → Diff
with_change change diff = record { hunks = onto_hunks change diff.hunks; after_hunks = diff.after_hunks }

-- all lines from an offset on, of which these are the next changes
abbrev pub diff_from : List ℕ → ℕ → List Change → Diff
diff_from source at [] = record { hunks = []; after_hunks = line_texts (drop at source) }
diff_from source at (change ∷ changes) =
    with_kept (line_texts (slice_range source at change.from))
    (with_change change (diff_from source change.to changes))

abbrev pub diff : List ℕ → List Replacement → Diff
diff source edits = diff_from source 0 (changes source edits)

-- ---- the lines of a diff

abbrev pub removed_lines : List Change → List (List ℕ)
removed_lines changes = flat_map (λ change. change.removed) changes

abbrev pub added_lines : List Change → List (List ℕ)
added_lines changes = flat_map (λ change. change.added) changes

-- the lines before the edits, and those after them
abbrev pub lines_before : Diff → List (List ℕ)
lines_before diff = flat_map (λ hunk. hunk.kept ++ removed_lines hunk.changes) diff.hunks ++ diff.after_hunks

abbrev pub lines_after : Diff → List (List ℕ)
lines_after diff = flat_map (λ hunk. hunk.kept ++ added_lines hunk.changes) diff.hunks ++ diff.after_hunks
