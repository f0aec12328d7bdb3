-- A block of edits, and the bounds of the lines it touches.
use Rattle.std.specs.Prelude.{ℕ, ◌<◌, ◌≤◌, ◌≡◌, List, [], ◌∷◌, ◌++◌, length, take, drop}
use Rattle.miette_fixes.specs.rules.Edits.{Replacement}
use Rattle.miette_fixes.specs.views.Ordered.{FitFrom}
use Rattle.miette_fix_rows.specs.rules.Blocks.{blocks, touched_from, touched_to}

-- at least one edit, all within the lines they touch
pub record IsBlock (source : List ℕ) (from to : ℕ) (edits : List Replacement) : Type 0 where
  pub some : 0 < length edits
  pub start : from ≡ touched_from source edits
  pub ending : to ≡ touched_to source edits
  pub within : to ≤ length source
  pub order : from ≤ to
  pub fit : FitFrom to from edits

-- an edit shares no line with a block of later edits
abbrev pub IsApart : List ℕ → Replacement → List Replacement → Type 0
IsApart source edit later = blocks source (edit ∷ later) ≡ (edit ∷ []) ∷ blocks source later

-- neither does the last of several edits
abbrev pub EndsApart : List ℕ → List Replacement → List Replacement → Type 0
EndsApart source [] later = Unit {0}
EndsApart source (edit ∷ []) later = IsApart source edit later
EndsApart source (edit ∷ next ∷ edits) later = EndsApart source (next ∷ edits) later

-- The edits from an index on are the last block, whatever edits follow on other lines.
pub record IsLastBlock (source : List ℕ) (edits : List Replacement) (low : ℕ) : Type 0 where
  pub whole : (later : List Replacement) → EndsApart source edits later
      → blocks source (drop low edits ++ later) ≡ drop low edits ∷ blocks source later
  pub apart : (later : List Replacement) → EndsApart source edits later
      → EndsApart source (take low edits) (drop low edits ++ later)
