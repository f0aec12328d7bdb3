-- Frames: header lines, an empty line, and as many bytes as the header states.
use Rattle.std.specs.Prelude.{ℕ, ◌+◌, ◌-◌, ◌*◌, ◌^◌, ◌==◌, ◌&&◌, ◌||◌, nat_lt, nat_le, Bool, if◌then◌else◌}
use Rattle.std.specs.Prelude.{List, [], ◌∷◌, ◌++◌, Option, Some, None, bytes_eq, codes, decimal, drop, length, map}
use Rattle.std.specs.Prelude.{option_and_then, option_map, position, reverse, take, take_while}
use Rattle.std.specs.Option.{option_or}
use Rattle.std.specs.Char.{to_ascii_lowercase}

-- ---- a row of the header

-- a space, a tab or a CR
abbrev pub is_blank : ℕ → Bool
is_blank b = (b == 32) || ((b == 9) || (b == 13))

abbrev pub without_leading : List ℕ → List ℕ
without_leading text = drop (length (take_while is_blank text)) text

abbrev pub without_trailing : List ℕ → List ℕ
without_trailing text = take (length text - length (take_while is_blank (reverse text))) text

-- a text without blanks at both ends
abbrev pub without_blanks : List ℕ → List ℕ
without_blanks text = without_trailing (without_leading text)

abbrev pub is_header_digit : ℕ → Bool
is_header_digit b = nat_le 48 b && nat_le b 57

-- a number with a digit appended; none if the byte is no digit or if the result exceeds 64 bits
abbrev pub with_digit : ℕ → ℕ → Option ℕ
with_digit n b = if is_header_digit b && nat_lt (n * 10 + (b - 48)) (2 ^ 64) then Some (n * 10 + (b - 48)) else None

-- a number with digits appended
abbrev pub number_from : ℕ → List ℕ → Option ℕ
number_from n [] = Some n
number_from n (b ∷ bs) = option_and_then (λ m. number_from m bs) (with_digit n b)

-- a number of one or more digits and nothing else
abbrev pub number : List ℕ → Option ℕ
number [] = None
number (b ∷ bs) = number_from 0 (b ∷ bs)

-- the length that a header field states, if it is `Content-Length`
abbrev pub named_length : List ℕ → List ℕ → Option ℕ
named_length name value =
    if bytes_eq (map to_ascii_lowercase (without_blanks name)) (codes "content-length") then number
    (without_blanks value) else None

-- the length that a header line states; a colon separates name and value
abbrev pub content_length_in : List ℕ → Option ℕ
content_length_in row = option_and_then (λ at. named_length (take at row) (drop (at + 1) row))
    (position (λ b. b == 58) row)

-- ---- the header

abbrev pub ends_header : List ℕ → Bool
ends_header row = length (without_blanks row) == 0

-- the known length, and the bytes after the header
abbrev pub known_length : Option ℕ → List ℕ → Option (ℕ × List ℕ)
known_length known rest = option_map (λ n. (n, rest)) known

-- The length that the header states, and the bytes after it. The arguments are the length from earlier lines, and the
-- bytes of the current line so far. If several lines state a length, the last one counts.
abbrev pub length_from : Option ℕ → List ℕ → List ℕ → Option (ℕ × List ℕ)
length_from known row [] = None
length_from known row (b ∷ bs) =
    if b == 10 then
    (if ends_header row then known_length known bs else length_from (option_or (content_length_in row) known) [] bs)
    else length_from known (row ++ b ∷ []) bs

-- ---- the frame

-- the body of a frame, and the bytes after it
pub record Frame : Type 0 where
  pub body : List ℕ
  pub rest : List ℕ

-- the first `n` bytes, if there are so many
abbrev pub cut : ℕ → List ℕ → Option Frame
cut n bytes = if nat_le n (length bytes) then Some (record { body = take n bytes; rest = drop n bytes }) else None

-- the first frame; none if its header states no length or if it ends early
abbrev pub first_frame : List ℕ → Option Frame
first_frame bytes = option_and_then (λ it. cut it.0 it.1) (length_from None [] bytes)

-- the header of a body with `n` bytes
abbrev pub header_text : ℕ → List ℕ
header_text n = codes "Content-Length: " ++ decimal n ++ codes "\r\n\r\n"

-- a body in a frame
abbrev pub framed : List ℕ → List ℕ
framed body = header_text (length body) ++ body
