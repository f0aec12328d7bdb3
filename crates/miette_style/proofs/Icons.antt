-- The characters that the icons' bytes spell.
use Rattle.std.proofs.Common.{◌≡◌, refl, [], ◌∷◌}
use Rattle.std.specs.Str.{chars}

pub chars-cross : chars (0xC3 ∷ 0x97 ∷ []) ≡ 0xD7 ∷ []
unfolding chars
chars-cross = refl

pub chars-warning : chars (0xE2 ∷ 0x9A ∷ 0xA0 ∷ []) ≡ 0x26A0 ∷ []
unfolding chars
chars-warning = refl

pub chars-hand : chars (0xE2 ∷ 0x98 ∷ 0x9E ∷ []) ≡ 0x261E ∷ []
unfolding chars
chars-hand = refl

pub chars-explosion : chars (0xF0 ∷ 0x9F ∷ 0x92 ∷ 0xA5 ∷ []) ≡ 0x1F4A5 ∷ []
unfolding chars
chars-explosion = refl

pub chars-warning_picture : chars (0xE2 ∷ 0x9A ∷ 0xA0 ∷ 0xEF ∷ 0xB8 ∷ 0x8F ∷ []) ≡ 0x26A0 ∷ 0xFE0F ∷ []
unfolding chars
chars-warning_picture = refl

pub chars-bulb : chars (0xF0 ∷ 0x9F ∷ 0x92 ∷ 0xA1 ∷ []) ≡ 0x1F4A1 ∷ []
unfolding chars
chars-bulb = refl

pub chars-letter : chars (120 ∷ []) ≡ 120 ∷ []
unfolding chars
chars-letter = refl

pub chars-exclamation_mark : chars (33 ∷ []) ≡ 33 ∷ []
unfolding chars
chars-exclamation_mark = refl

pub chars-greater_than : chars (62 ∷ []) ≡ 62 ∷ []
unfolding chars
chars-greater_than = refl

pub ruleset icons = (
  chars-cross,
  chars-warning,
  chars-hand,
  chars-explosion,
  chars-warning_picture,
  chars-bulb,
  chars-letter,
  chars-exclamation_mark,
  chars-greater_than,
)
