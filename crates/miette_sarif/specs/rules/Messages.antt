-- Messages, with braces doubled.
use Rattle.std.specs.Prelude.{ℕ, List, [], ◌∷◌, ◌++◌, Bool, ◌||◌, ◌==◌, if◌then◌else◌}
use Rattle.std.specs.Prelude.{Option, Some, None}

-- `{` and `}`, which enclose placeholders
abbrev pub is_brace : ℕ → Bool
is_brace x = (x == 123) || (x == 125)

abbrev pub double_byte : ℕ → List ℕ
double_byte x = if is_brace x then x ∷ x ∷ [] else x ∷ []

-- a text with its braces doubled
abbrev pub doubled : List ℕ → List ℕ
doubled [] = []
doubled (x ∷ xs) = double_byte x ++ doubled xs

-- a line: LF, a title, and a text with its braces doubled
abbrev pub row : List ℕ → List ℕ → List ℕ
row title text = 10 ∷ (title ++ doubled text)

abbrev pub rows : List ℕ → List (List ℕ) → List ℕ
rows title [] = []
rows title (text ∷ texts) = row title text ++ rows title texts

abbrev pub maybe_row : List ℕ → Option (List ℕ) → List ℕ
maybe_row title None = []
maybe_row title (Some text) = row title text
