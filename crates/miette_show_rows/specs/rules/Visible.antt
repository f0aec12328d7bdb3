-- Masks control characters with signs of the same length in bytes. Offsets stay the same.
use Rattle.std.specs.Prelude.{ℕ, List, [], ◌∷◌, Bool, false, if◌then◌else◌, ◌==◌, ◌||◌, ◌&&◌, drop, nat_le, not}

-- Whether the next byte is in this range.
abbrev pub next_within : ℕ → ℕ → List ℕ → Bool
next_within low high [] = false
next_within low high (b ∷ bs) = nat_le low b && nat_le b high

-- U+0000 to U+001F except tab, line feed and carriage return, and U+007F.
abbrev pub is_control : ℕ → Bool
is_control b = (nat_le b 31 && not (b == 9 || (b == 10 || b == 13))) || b == 127

-- U+0080 to U+009F, and U+061C, by their first byte and the bytes after it.
abbrev pub is_wider : ℕ → List ℕ → Bool
is_wider b bs = (b == 194 && next_within 128 159 bs) || (b == 216 && next_within 156 156 bs)

-- U+200E, U+200F, U+202A to U+202E, and U+2066 to U+2069, which reorder text.
abbrev pub is_widest : ℕ → List ℕ → Bool
is_widest b bs =
    b == 226 && ((next_within 128 128 bs && (next_within 142 143 (drop 1 bs) || next_within 170 174 (drop 1 bs)))
    || (next_within 129 129 bs && next_within 166 169 (drop 1 bs)))

-- The sign for a control character at the start of the bytes: `?`, U+00BF or U+FFFD. Empty if there is none.
abbrev pub sign_at : List ℕ → List ℕ
sign_at [] = []
sign_at (b ∷ bs) =
    if is_control b then 63 ∷ []
    else if is_wider b bs then 194 ∷ (191 ∷ []) else if is_widest b bs then 239 ∷ (191 ∷ (189 ∷ [])) else []

-- The rest of a sign, or else the sign that starts here.
abbrev pub sign_now : List ℕ → List ℕ → List ℕ
sign_now [] bytes = sign_at bytes
sign_now (s ∷ signs) bytes = s ∷ signs

abbrev pub first_or : ℕ → List ℕ → ℕ
first_or b [] = b
first_or b (s ∷ signs) = s

-- The masked bytes. `left` is the rest of a sign.
abbrev pub visible_after : List ℕ → List ℕ → List ℕ
visible_after left [] = []
visible_after left (b ∷ bs) =
    first_or b (sign_now left (b ∷ bs)) ∷ visible_after (drop 1 (sign_now left (b ∷ bs))) bs

abbrev pub mask_controls : List ℕ → List ℕ
mask_controls bytes = visible_after [] bytes

-- Whether the bytes contain a control character.
abbrev pub has_control : List ℕ → Bool
has_control [] = false
has_control (b ∷ bs) = is_control b || (is_wider b bs || (is_widest b bs || has_control bs))
