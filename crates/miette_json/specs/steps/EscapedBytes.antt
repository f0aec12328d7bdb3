-- Bytes of a string that need an escape.
use Rattle.std.specs.Prelude.{ℕ, ◌/◌, ◌%◌, Bool, false, not, ◌||◌, ◌==◌, nat_lt, List, [], ◌∷◌}
use Rattle.std.specs.Char.{digit_char}

-- whether a byte needs an escape in a string: a control character, `"` or `\`
abbrev pub is_escaped : ℕ → Bool
is_escaped x = nat_lt x 32 || ((x == 34) || (x == 92))

abbrev pub is_unescaped : ℕ → Bool
is_unescaped x = not (is_escaped x)

-- whether the first byte needs an escape
abbrev pub begins_escaped : List ℕ → Bool
begins_escaped [] = false
begins_escaped (x ∷ xs) = is_escaped x

-- the escape of a control character that has no short one: `\u00` and two hexadecimal digits
abbrev pub control_text : ℕ → List ℕ
control_text x = 92 ∷ 117 ∷ 48 ∷ 48 ∷ digit_char (x / 16) ∷ digit_char (x % 16) ∷ []
