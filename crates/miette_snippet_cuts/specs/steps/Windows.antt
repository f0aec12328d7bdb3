-- The part of a line in which its reach is searched.
use Rattle.std.specs.Prelude.{ℕ, ◌≡◌, ◌≤◌, List, [], ◌∷◌, length, Bool, false}
use Rattle.miette_columns.specs.rules.Cells.{Cell}
use Rattle.miette_snippet_cuts.specs.declared.nearness.CutSettings.{CutSettings}
use Rattle.miette_snippet_cuts.specs.declared.window.Window.{Window}
use Rattle.miette_snippet_cuts.specs.steps.Counting.{columns_from}
use Rattle.miette_snippet_cuts.specs.steps.Nearness.{near_by}

-- consecutive cells from a column on
abbrev pub StandFrom : ℕ → List Cell → Type 0
StandFrom column [] = Unit {0}
StandFrom column (cell ∷ cells) = (cell.from ≡ column) × (cell.from ≤ cell.until) × StandFrom cell.until cells

-- consecutive cells from some column on
abbrev pub StandTogether : List Cell → Type 0
StandTogether cells = (column : ℕ) × StandFrom column cells

-- a window's cells begin at its column, which is at most this one
abbrev pub StandsTo : ℕ → Window → Type 0
StandsTo end window = StandFrom window.column window.walk × (window.column ≤ end)

-- no cell that ends at or before a column is near
abbrev pub NoneBefore : ℕ → (Cell → Bool) → Type 0
NoneBefore end near = (cell : Cell) → cell.until ≤ end → near cell ≡ false

-- no cell that begins at or after a column is near
abbrev pub NoneFrom : ℕ → (Cell → Bool) → Type 0
NoneFrom stop near = (cell : Cell) → stop ≤ cell.from → near cell ≡ false

-- Skips cells that end at or before a column. If none of them is near, the remaining cells give the same width.
pub record HasSkipped (end : ℕ) (old new : Window) : Type 0 where
  pub stands : StandsTo end new
  pub counts : (dots : ℕ) (near : Cell → Bool) → NoneBefore end near →
      columns_from dots near new.column new.walk ≡ columns_from dots near old.column old.walk
  pub stop : new.stop ≡ old.stop
  pub left : length new.walk ≤ length old.walk

-- For each reach up to the limit, the window gives the same width as the whole line, and no cell from its stop on is
-- near.
pub record HoldsNear (limit : ℕ) (ends : List ℕ) (cells : List Cell) (window : Window) : Type 0 where
  pub stands : StandTogether window.walk
  pub counts : (room : CutSettings) → room.reach ≤ limit →
      columns_from room.dots (near_by room ends) window.column window.walk
      ≡ columns_from room.dots (near_by room ends) 0 cells
  pub past : (room : CutSettings) → room.reach ≤ limit → NoneFrom window.stop (near_by room ends)
