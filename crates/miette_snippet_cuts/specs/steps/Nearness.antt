-- Which cells of a line are near, and how many label columns are passed.
use Rattle.std.specs.Prelude.{ℕ, ◌≡◌, ◌+◌, ◌≤◌, List, [], ◌∷◌, drop, Bool, Option, None, Some, if◌then◌else◌, nat_lt}
use Rattle.std.specs.List.Sorted.{IsNonDecreasing}
use Rattle.miette_columns.specs.rules.Cells.{Cell}
use Rattle.miette_snippet_rules.specs.rules.CutLines.{has_room, is_near}
use Rattle.miette_snippet_cuts.specs.declared.nearness.CutSettings.{CutSettings}

-- which cells are near: those within the reach, or without label columns those that fit with the dots
abbrev pub near_by : CutSettings → List ℕ → Cell → Bool
near_by room [] cell = has_room room.limit room.dots cell
near_by room (end ∷ ends) cell = is_near room.reach (end ∷ ends) cell

-- the widths by which a line is cut, and its label columns
pub record LineEnds : Type 0 where
  pub room : CutSettings
  pub ends : List ℕ

-- the first label column that is at most `reach` columns before `column`
abbrev pub end_ahead : ℕ → ℕ → List ℕ → Option ℕ
end_ahead reach column [] = None
end_ahead reach column (end ∷ ends) = if nat_lt (end + reach) column then end_ahead reach column ends else Some end

-- from `column` on, none of the first `many` label columns is at most `reach` columns before it
abbrev pub ArePassed : ℕ → List ℕ → ℕ → ℕ → Type 0
ArePassed reach ends many column = (later : ℕ) → column ≤ later →
    end_ahead reach later ends ≡ end_ahead reach later (drop many ends)

-- ascending label columns, of which the first `many` are passed at a column
pub record IsSearched (reach : ℕ) (ends : List ℕ) (many column : ℕ) : Type 0 where
  pub ascending : IsNonDecreasing ends
  pub passed : ArePassed reach ends many column
