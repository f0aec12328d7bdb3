-- Where the first part of a word, the first line, and a line without trailing spaces end.
use Rattle.std.specs.Prelude.{◌≡◌, ℕ, zero, suc, ◌+◌, Bool, true, false, ◌&&◌, ◌==◌, nat_le, nat_lt, List, [], ◌∷◌}
use Rattle.std.specs.Prelude.{◌++◌, if◌then◌else◌, map, flat_map, take, drop}
use Rattle.std.specs.Char.{is_ascii_alphabetic}
use Rattle.miette_runs.specs.rules.Sequences.{is_line_feed}
use Rattle.miette_text.specs.rules.Wrapping.{Cuts, Word, is_space, is_alphanumeric, hyphen_parts, narrow_parts}
use Rattle.miette_runs.specs.rules.Cells.{TaggedChar, width}
use Rattle.miette_text.specs.rules.Wrapping.{parts, rows, with_spaces, word_cells}

abbrev pub all_spaces : List TaggedChar → Bool
all_spaces [] = true
all_spaces (c ∷ cs) = is_space c.code && all_spaces cs

-- without trailing spaces
abbrev pub bare_len : List TaggedChar → ℕ
bare_len [] = 0
bare_len (c ∷ cs) = if is_space c.code && all_spaces cs then 0 else suc (bare_len cs)

-- ---- of codes only, whatever sequences are between them

abbrev pub codes_of : List TaggedChar → List ℕ
codes_of = map (λ (c : TaggedChar). c.code)

abbrev pub begins_word : List ℕ → Bool
begins_word [] = false
begins_word (c ∷ cs) = is_alphanumeric c

-- The length of the first part of a word's rest, after a code and with `used` columns in use. It ends before a code
-- that ends every word, before a character that makes it too wide, and after a hyphen.
abbrev pub part_len : (ℕ → Bool) → Cuts → ℕ → ℕ → List ℕ → ℕ
part_len stop cuts before used [] = 0
part_len stop cuts before used (c ∷ cs) =
    if stop c then 0
    else if cuts.break_words && (nat_lt 0 used && nat_lt cuts.narrow (used + width c)) then 0
    else if cuts.split_hyphens && ((c == 45) && is_alphanumeric before && begins_word cs) then 1
    else suc (part_len stop cuts c (used + width c) cs)

-- from `.` to `~`: one column, and no word ends at it or is split after it
abbrev pub is_solid : ℕ → Bool
is_solid c = nat_le 46 c && nat_le c 126

-- how many such codes are at the front
abbrev pub solid_len : List ℕ → ℕ
solid_len [] = 0
solid_len (c ∷ cs) = if is_solid c then suc (solid_len cs) else 0

abbrev pub gap_len : List ℕ → ℕ
gap_len [] = 0
gap_len (c ∷ cs) = if is_space c then suc (gap_len cs) else 0

-- how many ASCII letters are at the front
abbrev pub letters_len : List ℕ → ℕ
letters_len [] = 0
letters_len (c ∷ cs) = if is_ascii_alphabetic c then suc (letters_len cs) else 0

-- the last of the first `n` codes, if there is one
abbrev pub code_after : ℕ → ℕ → List ℕ → ℕ
code_after before zero cs = before
code_after before (suc n) [] = before
code_after before (suc n) (c ∷ cs) = code_after c n cs

abbrev pub hyphenated_after : Cuts → ℕ → List TaggedChar → List (List TaggedChar)
hyphenated_after cuts before letters = if cuts.split_hyphens then hyphen_parts before letters else letters ∷ []

-- ---- words separated by spaces, cell by cell

-- A letter in front makes the first word longer. A space in front makes its spaces longer if it has no letter yet.
abbrev pub with_letter : TaggedChar → List Word → List Word
with_letter c [] = record { letters = c ∷ []; spaces = [] } ∷ []
with_letter c (w ∷ ws) = record { letters = c ∷ w.letters; spaces = w.spaces } ∷ ws

abbrev pub with_space : TaggedChar → List Word → List Word
with_space c [] = record { letters = []; spaces = c ∷ [] } ∷ []
with_space c (w ∷ ws) = elim w.letters [
  | [] ↦ record { letters = []; spaces = c ∷ w.spaces } ∷ ws
  | letter ∷ letters ↦ record { letters = []; spaces = c ∷ [] } ∷ w ∷ ws
]

-- the line is split after each run of spaces
abbrev pub spaced_words : List TaggedChar → List Word
spaced_words [] = []
spaced_words (c ∷ cs) =
    if is_space c.code then with_space c (spaced_words cs) else with_letter c (spaced_words cs)

-- the parts of such words, after a code
abbrev pub words_after : Cuts → ℕ → List TaggedChar → List Word
words_after cuts before cells = elim (spaced_words cells) [
  | [] ↦ []
  | w ∷ ws ↦ with_spaces w.spaces (flat_map (narrow_parts cuts) (hyphenated_after cuts before w.letters))
      ++ flat_map (parts cuts) ws
]

-- ---- parts and lines, by the parts of the rest of a line

-- the first part has `n` codes and `m` spaces after them
abbrev pub IsPart : (List TaggedChar → List Word) → (List TaggedChar → List Word) → List ℕ → ℕ → ℕ → Type 0
IsPart left after codes n m =
    (cells : List TaggedChar) → codes_of cells ≡ codes →
    left cells ≡ record { letters = take n cells; spaces = take m (drop n cells) } ∷ after (drop (n + m) cells)

abbrev pub row_cells : List Word → List TaggedChar
row_cells = flat_map word_cells

-- the lines of the rest; none if nothing is left
abbrev pub rows_left : (List TaggedChar → List Word) → ℕ → List TaggedChar → List (List TaggedChar)
rows_left left room [] = []
rows_left left room (c ∷ cs) = map row_cells (rows room room (left (c ∷ cs)))

-- the first line has `n` codes
abbrev pub IsFirstRow : (List TaggedChar → List Word) → (List TaggedChar → List Word) → ℕ → List ℕ → ℕ → Type 0
IsFirstRow left after room codes n =
    (cells : List TaggedChar) (further : ℕ) → codes_of cells ≡ codes →
    map row_cells (rows room further (left cells)) ≡ take n cells ∷ rows_left after further (drop n cells)

-- ---- lines, and characters only

abbrev pub line_len : List ℕ → ℕ
line_len [] = 0
line_len (c ∷ cs) = if is_line_feed c then 0 else suc (line_len cs)
