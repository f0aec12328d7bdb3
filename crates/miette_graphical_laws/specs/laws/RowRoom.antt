-- Wrapped rows have room.
use Rattle.std.specs.Prelude.{ℕ, ◌≡◌, ◌≤◌, ◌⊎◌, List, [], ◌∷◌, length, nat_lt}
use Rattle.std.specs.List.{AllByRecursion, filter}
use Rattle.miette_runs.specs.rules.Cells.{TaggedChar, width}
use Rattle.miette_text.specs.rules.Wrapping.{Cuts, Word, columns, cut_words, word_cells}
use Rattle.miette_text.specs.rules.Wrapping as wrapping
use Rattle.miette_text.specs.laws.FilledRows.{Fits}

-- the characters that have columns
abbrev pub with_columns : List TaggedChar → List TaggedChar
with_columns letters = filter (λ c. nat_lt 0 (width c.code)) letters

-- at most `room` columns, or one character with columns
abbrev pub IsNarrowPart : ℕ → List TaggedChar → Type 0
IsNarrowPart room letters = (columns letters ≤ room) ⊎ (length (with_columns letters) ≡ 1)

-- The first word of a row has room, or is one character with columns. Each other word ends within the room.
abbrev pub RowHasRoom : ℕ → List Word → Type 0
RowHasRoom room [] = Unit {0}
RowHasRoom room (w ∷ ws) = IsNarrowPart room w.letters × Fits room (columns (word_cells w)) ws

-- the first row has its own room
abbrev pub RowsHaveRoom : ℕ → ℕ → List (List Word) → Type 0
RowsHaveRoom room further [] = Unit {0}
RowsHaveRoom room further (row ∷ rows) = RowHasRoom room row × RowsHaveRoom further further rows

-- If words are broken, each part of a word has room in the narrowest row, and each row has room.
pub record WordsHaveRoom (c : Cuts) (cells : List TaggedChar) : Type 0 where
  pub parts : AllByRecursion (λ w. IsNarrowPart c.narrow w.letters) (cut_words c cells)
  pub rows : (room further : ℕ) → c.narrow ≤ room → c.narrow ≤ further →
      RowsHaveRoom room further (wrapping.rows room further (cut_words c cells))
