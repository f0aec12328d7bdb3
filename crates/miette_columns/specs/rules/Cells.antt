-- The characters of a line's text, with their bytes and columns.
use Rattle.std.specs.Prelude.{ℕ, ◌+◌, ◌-◌, ◌%◌, List, [], map, ◌∷◌, Bool, not, ◌&&◌, ◌||◌, if◌then◌else◌, ◌==◌}
use Rattle.bstr.specs.Utf8.{pieces, or_replacement}

-- a character, and its length in bytes
pub record Character : Type 0 where
  pub code : ℕ
  pub bytes : ℕ

-- a character with its byte range and its columns
pub record Cell : Type 0 where
  pub code : ℕ
  pub start : ℕ
  pub after : ℕ
  pub from : ℕ
  pub until : ℕ

-- from an ESC to the next `m` nothing has width
abbrev pub is_hidden : Bool → ℕ → Bool
is_hidden hidden code = hidden || code == 27

abbrev pub hides_next : Bool → ℕ → Bool
hides_next hidden code = is_hidden hidden code && not (code == 109)

-- a tab extends to the next multiple of the tab width
abbrev pub width_at : (ℕ → ℕ) → ℕ → Bool → ℕ → ℕ → ℕ
width_at width tab hidden column code = if is_hidden hidden code then 0 else if code == 9 then tab - column % tab
    else width code

abbrev pub cells_from : (ℕ → ℕ) → ℕ → Bool → ℕ → ℕ → List Character → List Cell
cells_from width tab hidden offset column [] = []
cells_from width tab hidden offset column (c ∷ cs) =
    record {
      code = c.code;
      start = offset;
      after = offset + c.bytes;
      from = column;
      until = column + width_at width tab hidden column c.code;
    }
    ∷ cells_from width tab (hides_next hidden c.code) (offset + c.bytes)
    (column + width_at width tab hidden column c.code) cs

-- the characters of bytes; invalid bytes give U+FFFD
abbrev pub characters : List ℕ → List Character
characters bytes = map (λ p. record { code = or_replacement p.char; bytes = p.size }) (pieces bytes)
