-- Pieces of a text with their offsets.
use Rattle.std.specs.Prelude.{◌≡◌, ℕ, ◌+◌, ◌-◌, ◌^◌, ◌<◌, ◌==◌, min, Bool, List, Option, None, Some, length}
use Rattle.std.specs.List.{after_first, before_first}
use Rattle.miette.specs.declared.pieces.Piece.{Piece}

-- the rest of a text, and its offset
pub record RemainingText : Type 0 where
  pub start : ℕ
  pub text : List ℕ

-- a line feed
abbrev pub is_lf : ℕ → Bool
is_lf b = b == 10

-- `n` bytes after `start`, at most the largest `usize`
abbrev pub bytes_after : ℕ → ℕ → ℕ
bytes_after start n = min (start + n) (2 ^ 64 - 1)

-- a line is the text before the first LF, or all of it; the rest is the text after that LF
abbrev pub GivesPieceLine : RemainingText → Option Piece → RemainingText → Type 0
GivesPieceLine left None new = length left.text ≡ 0
GivesPieceLine left (Some line) new =
    (0 < length left.text) × (line.start ≡ left.start) × (line.text.now ≡ before_first is_lf left.text)
    × (new.text ≡ after_first is_lf left.text) × (new.start + length new.text ≡ left.start + length left.text)
