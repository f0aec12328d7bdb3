-- Lines of bytes, and line and column of an offset.
use Rattle.std.specs.Prelude.{◌≡◌, ℕ, ◌+◌, ◌≤◌, ◌<◌, Bool, not, ◌&&◌, ◌||◌, ◌==◌, nat_lt, nat_le, if◌then◌else◌, List}
use Rattle.std.specs.Prelude.{[], ◌∷◌, length, count_by, slice_get, slice_index, slice_range}
use Rattle.std.specs.Option.{option_map_or}

-- where a line begins, where its text ends, and where it ends with its terminator
pub record Line : Type 0 where
  pub start : ℕ
  pub text_end : ℕ
  pub end : ℕ

-- line feed
abbrev pub LF : ℕ
LF = 10

-- carriage return
abbrev pub CR : ℕ
CR = 13

-- whether a byte is the last of a terminator, before the next byte: LF is, and CR if no LF follows
unfoldable pub ends_line : ℕ → ℕ → Bool
ends_line b next = (b == LF) || ((b == CR) && not (next == LF))

-- the lines with one more byte in front that ends no line: text, or the CR of a CRLF
abbrev pub with_byte : ℕ → ℕ → List Line → List Line
with_byte b at [] = record { start = at; text_end = at + 1; end = at + 1 } ∷ []
with_byte b at (l ∷ ls) =
    record { start = at; text_end = if b == CR then at else l.text_end; end = l.end } ∷ ls

-- the lines of bytes that begin at an offset
abbrev pub lines_from : ℕ → List ℕ → List Line
lines_from at [] = []
lines_from at (b ∷ bs) =
    if ends_line b (slice_index bs 0)
    then (record { start = at; text_end = at; end = at + 1 } ∷ lines_from (at + 1) bs)
    else (with_byte b at (lines_from (at + 1) bs))

-- the lines of a source: each ends with LF, CRLF or a lone CR, or is the nonempty rest
abbrev pub lines_of : List ℕ → List Line
lines_of bytes = lines_from 0 bytes

-- the lines follow one another between two offsets, and none is empty
abbrev pub IsCut : ℕ → List Line → ℕ → Type 0
IsCut at [] to = at ≡ to
IsCut at (l ∷ ls) to =
    (l.start ≡ at) × (at ≤ l.text_end) × (l.text_end ≤ l.end) × (at < l.end) × IsCut l.end ls to

-- a line has a terminator if its text ends before the line does
abbrev pub is_terminated : Line → Bool
is_terminated l = nat_lt l.text_end l.end

-- the line number of an offset: how many lines with a terminator end at or before it
unfoldable pub line_of : List ℕ → ℕ → ℕ
line_of bytes offset = count_by (λ l. is_terminated l && nat_le l.end offset) (lines_of bytes)

-- where a line begins, or the end of the bytes if there is no such line
unfoldable pub line_start : List ℕ → ℕ → ℕ
line_start bytes k = option_map_or (λ l. l.start) (slice_get (lines_of bytes) k) (length bytes)

-- where a line ends, or the end of the bytes if there is no such line
unfoldable pub line_end : List ℕ → ℕ → ℕ
line_end bytes k = option_map_or (λ l. l.end) (slice_get (lines_of bytes) k) (length bytes)

-- whether a byte isn't part of a terminator
abbrev pub is_text : ℕ → Bool
is_text b = not (b == LF) && not (b == CR)

-- the number of text bytes between the start of an offset's line and the offset
unfoldable pub column_of : List ℕ → ℕ → ℕ
column_of bytes offset = count_by is_text (slice_range bytes (line_start bytes (line_of bytes offset)) offset)

-- how many terminators have their last byte between two offsets, the second excluded
unfoldable pub terminators_in : List ℕ → ℕ → ℕ → ℕ
terminators_in bytes from to =
    count_by (λ l. is_terminated l && (nat_lt from l.end && nat_le l.end to)) (lines_of bytes)
