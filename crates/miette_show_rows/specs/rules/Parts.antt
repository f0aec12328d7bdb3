-- The parts of the input: single lines, and JSON values over several lines.
use Rattle.std.specs.Prelude.{ℕ, ◌+◌, ◌-◌, List, [], ◌∷◌, ◌++◌, Bool, if◌then◌else◌, ◌==◌, ◌||◌, ◌&&◌, codes, min, not}
use Rattle.std.specs.Prelude.{false, true, nat_eq, nat_lt}
use Rattle.std.specs.List.{count_by, fold, list_any, starts_with}
use Rattle.miette_show_rows.specs.rules.Rows.{is_closing_bracket, is_quote_or_bracket, is_opening_bracket}
use Rattle.miette_show_rows.specs.rules.Rows.{is_json_space, last_row, rows_of, without_byte_order_mark}
use Rattle.miette_show_rows.specs.declared.parts.JsonState.{JsonState}

-- ---- what is open after bytes of JSON

abbrev pub closed : JsonState
closed = record { depth = 0; quoted = false; escaped = false }

-- Inside a string. A quote without a backslash before it ends the string.
abbrev pub in_text : JsonState → ℕ → JsonState
in_text o b =
    if o.escaped then record o { escaped = false }
    else if b == 92 then record o { escaped = true } else if b == 34 then record o { quoted = false } else o

-- Outside of strings, brackets open and close. The depth is limited to a machine word.
abbrev pub beside_text : JsonState → ℕ → JsonState
beside_text o b =
    if b == 34 then record o { quoted = true }
    else if b == 123 || b == 91 then record o { depth = min (o.depth + 1) 18446744073709551615 }
    else if b == 125 || b == 93 then record o { depth = o.depth - 1 } else o

abbrev pub with_byte : JsonState → ℕ → JsonState
with_byte o b = if o.quoted then in_text o b else beside_text o b

abbrev pub after_bytes : JsonState → List ℕ → JsonState
after_bytes o bytes = fold with_byte o bytes

-- A bracket is open, and no string. No line ends inside a string.
abbrev pub is_unclosed : JsonState → Bool
is_unclosed o = nat_lt 0 o.depth && not o.quoted

-- ---- parts

-- A value starts with `{` or `[`, then a quote, a bracket, white space or the end of the line.
abbrev pub opens_value : List ℕ → Bool
opens_value [] = false
opens_value (a ∷ []) = false
opens_value (a ∷ b ∷ bs) = is_opening_bracket a && (is_quote_or_bracket b || is_json_space b)

abbrev pub begins_value : List ℕ → Bool
begins_value part = opens_value (without_byte_order_mark part)

-- The first line is a single bracket.
abbrev pub begins_alone : List ℕ → Bool
begins_alone part =
    list_any (λ beginning. starts_with nat_eq (without_byte_order_mark part) beginning)
    (codes "{\n" ∷ codes "{\r\n" ∷ codes "[\n" ∷ codes "[\r\n" ∷ [])

-- A line inside a value starts with white space or a closing bracket.
abbrev pub is_inner : List ℕ → Bool
is_inner [] = false
is_inner (b ∷ bs) = is_json_space b || is_closing_bracket b

-- An open value continues with such a line. After a single bracket, it continues with any line.
abbrev pub continues_value : List ℕ → List ℕ → Bool
continues_value part row = (begins_value part && is_unclosed (after_bytes closed part))
    && (begins_alone part || is_inner row)

-- The parts of these lines. `held` is the start of a part.
abbrev pub parts_from : List ℕ → List (List ℕ) → List (List ℕ)
parts_from held [] = last_row held
parts_from held (r ∷ rs) = if continues_value held r then parts_from (held ++ r) rs else last_row held
    ++ parts_from r rs

abbrev pub parts_of : List ℕ → List (List ℕ)
parts_of bytes = parts_from [] (rows_of bytes)

-- ---- their rows

-- The number of line feeds.
abbrev pub count_row_ends : List ℕ → ℕ
count_row_ends bytes = count_by (λ b. b == 10) bytes
