-- Which lines a list of words fills, and what is printed for a line.
use Rattle.std.specs.Prelude.{◌≡◌, ℕ, ◌+◌, ◌<◌, ◌≤◌, Bool, true, false, not, List, [], ◌∷◌, ◌++◌}
use Rattle.miette_runs.specs.rules.Sequences.{Token, Character, Sequence}
use Rattle.miette_text.specs.rules.Wrapping.{Word, columns, is_space, only_spaces, word_cells}

abbrev pub all_words : List (List Word) → List Word
all_words [] = []
all_words (r ∷ rs) = r ++ all_words rs

-- each word fits after `used` columns and the words before it
abbrev pub Fits : ℕ → ℕ → List Word → Type 0
Fits room used [] = Unit {0}
Fits room used (w ∷ ws) = (used + columns w.letters ≤ room) × Fits room (used + columns (word_cells w)) ws

-- each word except the first fits after those before it
abbrev pub IsRow : ℕ → List Word → Type 0
IsRow room [] = Unit {0}
IsRow room (w ∷ ws) = Fits room (columns (word_cells w)) ws

abbrev pub used_after : ℕ → List Word → ℕ
used_after used [] = used
used_after used (w ∷ ws) = used_after (used + columns (word_cells w)) ws

-- the first word of the next line doesn't fit after `used` columns
abbrev pub Overflows : ℕ → ℕ → List Word → Type 0
Overflows room used [] = ⊥
Overflows room used (w ∷ ws) = room < used + columns w.letters

abbrev pub row_used : List Word → ℕ
row_used [] = 0
row_used (w ∷ ws) = used_after (columns (word_cells w)) ws

-- lines below one with `used` columns: the first word of each doesn't fit above
abbrev pub Below : ℕ → ℕ → ℕ → List (List Word) → Type 0
Below room further used [] = Unit {0}
Below room further used (q ∷ qs) = Overflows room used q × IsRow further q × Below further further (row_used q) qs

-- one empty line, or lines that each have a word
abbrev pub IsFilled : ℕ → ℕ → List (List Word) → Type 0
IsFilled room further [] = ⊥
IsFilled room further ([] ∷ rs) = elim rs [ [] ↦ Unit {0} | q ∷ qs ↦ ⊥ ]
IsFilled room further ((w ∷ ws) ∷ rs) = IsRow room (w ∷ ws) × Below room further (row_used (w ∷ ws)) rs

-- ---- without trailing spaces

abbrev pub sequences_of : List Token → List Token
sequences_of [] = []
sequences_of (Character c ∷ ts) = sequences_of ts
sequences_of (Sequence s ∷ ts) = Sequence s ∷ sequences_of ts

-- a character that isn't a space
abbrev pub is_letter_token : Token → Bool
is_letter_token (Character c) = not (is_space c)
is_letter_token (Sequence s) = false

-- the last token, if there is one, is a letter
abbrev pub ends_with_letter : List Token → Bool
ends_with_letter [] = true
ends_with_letter (t ∷ ts) = elim ts [ [] ↦ is_letter_token t | u ∷ us ↦ ends_with_letter ts ]

-- the line up to its last letter, and the sequences after it: only spaces are missing
pub record IsTrimmed (row found : List Token) : Type 0 where
  pub kept : List Token
  pub dropped : List Token
  pub whole : row ≡ kept ++ dropped
  pub letter : ends_with_letter kept ≡ true
  pub spaces : only_spaces dropped ≡ true
  pub printed : found ≡ kept ++ sequences_of dropped
