-- Spans whose lines haven't changed since rustc read them.
use Rattle.std.specs.Prelude.{ℕ, ◌+◌, ◌-◌, List, [], ◌∷◌, Option, Some, None, Bool, true, false, ◌==◌, ◌&&◌, ◌||◌}
use Rattle.std.specs.Prelude.{nat_eq, nat_le, nat_lt}
use Rattle.std.specs.Prelude.{if◌then◌else◌, option_map, unwrap_or, length, take, drop, codes, slice_range}
use Rattle.std.specs.List.{count_by, list_any, starts_with}
use Rattle.memchr.specs.Find.{is_byte}
use Rattle.serde_json.specs.Data.{Data}
use Rattle.miette_protocol.specs.rules.Reading.{Source}
use Rattle.miette_read.specs.rules.Members.{member_objects, member_text, member_number}
use Rattle.miette_read.specs.rules.Rustc.{file_name}

-- The bytes after the last LF.
abbrev pub last_row : List ℕ → List ℕ
last_row [] = []
last_row (b ∷ bs) = if list_any (is_byte 10) (b ∷ bs) then last_row bs else b ∷ bs

-- The start of the line with this offset.
abbrev pub row_start : List ℕ → ℕ → ℕ
row_start bytes at = at - length (last_row (take at bytes))

-- The bytes after a line's end, LF or CR LF. The last line needs none.
abbrev pub after_end : List ℕ → Option (List ℕ)
after_end rest =
    if length rest == 0 then Some rest
    else if starts_with nat_eq rest (10 ∷ []) then Some (drop 1 rest)
    else if starts_with nat_eq rest (13 ∷ (10 ∷ [])) then Some (drop 2 rest) else None

-- The bytes after a line and its end, if `bytes` start with them.
abbrev pub after_row : List ℕ → List ℕ → Option (List ℕ)
after_row row bytes = if starts_with nat_eq bytes row then after_end (drop (length row) bytes) else None

-- The text of a line that rustc read.
abbrev pub row_text : Data → List ℕ
row_text d = unwrap_or (member_text (codes "text") d) []

-- Whether `bytes` start with these lines.
abbrev pub begin_with : List Data → List ℕ → Bool
begin_with [] bytes = true
begin_with (d ∷ ds) bytes = unwrap_or (option_map (begin_with ds) (after_row (row_text d) bytes)) false

-- The first byte of a UTF-8 character.
abbrev pub is_first : ℕ → Bool
is_first b = nat_lt b 128 || nat_le 192 b

-- The one-based column after these bytes of a line.
abbrev pub column_after : List ℕ → ℕ
column_after bytes = count_by is_first bytes + 1

-- The offset is at this column of its line, and these lines start there.
abbrev pub stand_in : List ℕ → ℕ → ℕ → List Data → Bool
stand_in bytes at column rows =
    if nat_le at (length bytes)
    then (column_after (slice_range bytes (row_start bytes at) at) == column)
    && begin_with rows (drop (row_start bytes at) bytes)
    else false

-- At least one line is needed.
abbrev pub rows_stand_in : List ℕ → ℕ → ℕ → List Data → Bool
rows_stand_in bytes at column [] = false
rows_stand_in bytes at column (d ∷ ds) = stand_in bytes at column (d ∷ ds)

abbrev pub stand_at : Option Source → Option ℕ → ℕ → List Data → Bool
stand_at None at column rows = false
stand_at (Some file) None column rows = false
stand_at (Some file) (Some at) column rows = rows_stand_in file.bytes at column rows

-- The file has the lines that rustc read at the span, at the same offset and column. There is at least one line.
abbrev pub is_span_current : (List ℕ → Option Source) → Data → Bool
is_span_current files d =
    stand_at (files (file_name d)) (member_number (codes "byte_start") d)
    (unwrap_or (member_number (codes "column_start") d) 0) (member_objects (codes "text") d)
