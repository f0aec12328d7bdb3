-- Fixes that do not conflict.
use Rattle.std.specs.Prelude.{ℕ, ◌<◌, ◌≡◌, List, [], false, length, slice_index_or}
use Rattle.miette_fixes.specs.rules.ApplyingAll.{some_conflict}
use Rattle.miette_fixes.specs.rules.Edits.{Replacement}

-- no edit of one fix conflicts with an edit of another one
abbrev pub NoTwoConflict : List (List Replacement) → Type 0
NoTwoConflict fixes = (i j : ℕ) → i < j → j < length fixes
    → some_conflict (slice_index_or fixes i []) (slice_index_or fixes j []) ≡ false
