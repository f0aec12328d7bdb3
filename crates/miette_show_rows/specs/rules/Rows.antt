-- The lines of the input.
use Rattle.std.specs.Prelude.{ℕ, List, [], ◌∷◌, ◌++◌, Bool, true, false, if◌then◌else◌, ◌==◌, ◌||◌, ◌&&◌}
use Rattle.std.specs.Prelude.{drop, nat_eq}
use Rattle.std.specs.List.{list_any, starts_with}

-- A last line without LF, if it isn't empty.
abbrev pub last_row : List ℕ → List (List ℕ)
last_row [] = []
last_row (b ∷ bs) = (b ∷ bs) ∷ []

-- The lines of these bytes. `begun` is the start of a line.
abbrev pub rows_from : List ℕ → List ℕ → List (List ℕ)
rows_from begun [] = last_row begun
rows_from begun (b ∷ bs) = if b == 10 then (begun ++ b ∷ []) ∷ rows_from [] bs else rows_from (begun ++ b ∷ []) bs

-- Each line includes its LF.
abbrev pub rows_of : List ℕ → List (List ℕ)
rows_of bytes = rows_from [] bytes

abbrev pub has_end : List ℕ → Bool
has_end bytes = list_any (λ b. b == 10) bytes

-- ---- marks in front

-- The byte order mark of UTF-8.
abbrev pub byte_order_mark : List ℕ
byte_order_mark = 239 ∷ (187 ∷ (191 ∷ []))

-- The bytes without a byte order mark.
abbrev pub without_byte_order_mark : List ℕ → List ℕ
without_byte_order_mark bytes = if starts_with nat_eq bytes byte_order_mark then drop 3 bytes else bytes

-- Whether the bytes start with a byte order mark of UTF-16, which isn't read.
abbrev pub is_utf16 : List ℕ → Bool
is_utf16 bytes = starts_with nat_eq bytes (255 ∷ (254 ∷ [])) || starts_with nat_eq bytes (254 ∷ (255 ∷ []))

-- ---- how values begin

abbrev pub is_json_space : ℕ → Bool
is_json_space b = b == 32 || (b == 9 || (b == 10 || b == 13))

abbrev pub is_closing_bracket : ℕ → Bool
is_closing_bracket b = b == 125 || b == 93

abbrev pub is_opening_bracket : ℕ → Bool
is_opening_bracket b = b == 123 || b == 91

-- A quote or a bracket.
abbrev pub is_quote_or_bracket : ℕ → Bool
is_quote_or_bracket b = b == 34 || (is_opening_bracket b || is_closing_bracket b)

-- White space only, or a quote or bracket after white space.
abbrev pub leads_in : List ℕ → Bool
leads_in [] = true
leads_in (b ∷ bs) = if is_json_space b then leads_in bs else is_quote_or_bracket b

-- This bracket, then white space only, or a quote or bracket after white space.
abbrev pub begins_with_bracket : ℕ → List ℕ → Bool
begins_with_bracket bracket [] = false
begins_with_bracket bracket (b ∷ bs) = b == bracket && leads_in bs

-- Messages of rustc, cargo and ShellCheck and SARIF logs start like this.
abbrev pub begins_object : List ℕ → Bool
begins_object row = begins_with_bracket 123 (without_byte_order_mark row) || is_utf16 row

-- GCC's output starts like this.
abbrev pub begins_array : List ℕ → Bool
begins_array row = begins_with_bracket 91 (without_byte_order_mark row) || is_utf16 row
