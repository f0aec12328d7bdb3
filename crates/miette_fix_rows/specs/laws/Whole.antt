-- A diff contains all lines of the source and of the applied text.
use Rattle.std.specs.Prelude.{◌≡◌, ℕ, List, reverse}
use Rattle.std.specs.List.{flat_map}
use Rattle.miette_fix_rows.specs.rules.Hunks.{Change, common}

-- a change has no common line at its start or end
pub record IsTrimmedChange (change : Change) : Type 0 where
  pub front : common change.removed change.added ≡ 0
  pub ending : common (reverse change.removed) (reverse change.added) ≡ 0

-- the bytes of all lines, in order
abbrev pub all_bytes : List (List ℕ) → List ℕ
all_bytes lines = flat_map (λ line. line) lines
