-- The bounds of the removed and added lines in a block's texts.
use Rattle.std.specs.Prelude.{ℕ, ◌-◌, ◌≤◌, ◌≡◌, List, length, take, slice_range}
use Rattle.miette_fix_rows.specs.declared.changes.Sizes.{Sizes}
use Rattle.miette_fix_rows.specs.rules.Blocks.{bytes_of, line_texts}
use Rattle.miette_fix_rows.specs.rules.Hunks.{common_after, common_before, block_diff}

-- how many lines two lists have in common at their start
abbrev pub staying : List (List ℕ) → List (List ℕ) → ℕ
staying olds news = common_before olds news (common_after olds news)

-- how many lines of each list come before the common lines at the end
abbrev pub old_until : List (List ℕ) → List (List ℕ) → ℕ
old_until olds news = length olds - common_after olds news

abbrev pub new_until : List (List ℕ) → List (List ℕ) → ℕ
new_until olds news = length news - common_after olds news

pub record AreSizes (olds news : List (List ℕ)) (sizes : Sizes) : Type 0 where
  pub removed_from : sizes.removed_from ≡ bytes_of (take (staying olds news) olds)
  pub removed_to : sizes.removed_to ≡ bytes_of (take (old_until olds news) olds)
  pub added_from : sizes.added_from ≡ bytes_of (take (staying olds news) news)
  pub added_to : sizes.added_to ≡ bytes_of (take (new_until olds news) news)

pub record IsSized (old new : List ℕ) (sizes : Sizes) : Type 0 where
  pub front : sizes.removed_from ≡ bytes_of (block_diff (line_texts old) (line_texts new)).front
  pub order : sizes.removed_from ≤ sizes.removed_to
  pub within : sizes.removed_to ≤ length old
  pub removed : line_texts (slice_range old sizes.removed_from sizes.removed_to)
      ≡ (block_diff (line_texts old) (line_texts new)).removed
  pub added_order : sizes.added_from ≤ sizes.added_to
  pub added_within : sizes.added_to ≤ length new
  pub added : line_texts (slice_range new sizes.added_from sizes.added_to)
      ≡ (block_diff (line_texts old) (line_texts new)).added
