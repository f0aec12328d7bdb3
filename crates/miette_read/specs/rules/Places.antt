-- Locations in files, and the annotations of a message.
use Rattle.std.specs.Prelude.{ℕ, ◌-◌, List, [], ◌∷◌, ◌++◌, Option, Some, None, Bool, ◌&&◌, ◌||◌, ◌==◌, nat_lt, nat_le}
use Rattle.std.specs.Prelude.{max, min, length, slice_range, count_by, decimal}
use Rattle.std.specs.Prelude.{codes}
use Rattle.std.specs.List.{fold}

-- A range of bytes: offsets of its start and end.
pub record ByteRange : Type 0 where
  pub start : ℕ
  pub end : ℕ

-- A location as a tool gives it: file name, byte range if known, line and column.
pub record ToolLocation : Type 0 where
  pub name : List ℕ
  pub stretch : Option ByteRange
  pub line : ℕ
  pub column : ℕ

-- An annotation of a message: lines of text, and a location if it has one. `primary` marks a primary location, `own`
-- one of the message's own locations.
pub record Annotation : Type 0 where
  pub rows : List (List ℕ)
  pub place : Option ToolLocation
  pub primary : Bool
  pub own : Bool

-- The offset of the last byte, or of the start for an empty range.
abbrev pub last_byte : ByteRange → ℕ
last_byte s = max s.start (s.end - 1)

-- How many line feeds there are from one offset up to another.
abbrev pub ends_between : List ℕ → ℕ → ℕ → ℕ
ends_between bytes from to = count_by (λ b. b == 10) (slice_range bytes from (min to (length bytes)))

abbrev pub on_one_line : List ℕ → ByteRange → Bool
on_one_line bytes s = ends_between bytes s.start (last_byte s) == 0

-- Whether two ranges share a byte. An empty range counts as one byte.
abbrev pub shares_byte : ByteRange → ByteRange → Bool
shares_byte s t = (nat_lt s.start t.end || nat_le s.start t.start) && (nat_lt t.start s.end || nat_le t.start s.start)

-- Two ranges clash if each is on one line and they share a byte.
abbrev pub clash : List ℕ → ByteRange → ByteRange → Bool
clash bytes s t = shares_byte s t && (on_one_line bytes s && on_one_line bytes t)

-- Two ranges are near if each one starts at most three lines below the end of the other.
abbrev pub near : List ℕ → ByteRange → ByteRange → Bool
near bytes s t =
    nat_le (ends_between bytes (last_byte s) t.start) 3 && nat_le (ends_between bytes (last_byte t) s.start) 3

abbrev pub is_same : ByteRange → ByteRange → Bool
is_same s t = (s.start == t.start) && (s.end == t.end)

-- Whether the first range contains the second.
abbrev pub holds : ByteRange → ByteRange → Bool
holds s t = nat_le s.start t.start && nat_le t.end s.end

-- Whether a range is in bounds of its file and doesn't end before its start.
abbrev pub is_within : List ℕ → ByteRange → Bool
is_within bytes s = nat_le s.start s.end && nat_le s.end (length bytes)

-- ---- texts of several rows

abbrev pub row_after : List ℕ → List ℕ → List ℕ
row_after text row = text ++ 10 ∷ row

-- The lines as one text, or `None` if there are none.
abbrev pub join_rows : List (List ℕ) → Option (List ℕ)
join_rows [] = None
join_rows (row ∷ rows) = Some (fold row_after row rows)

-- The text after a location's name, line and column.
abbrev pub text_after : Option (List ℕ) → List ℕ
text_after None = []
text_after (Some text) = codes ": " ++ text

-- The text for a location that isn't found.
abbrev pub tool_location_text : ToolLocation → List (List ℕ) → List ℕ
tool_location_text p rows =
    (((p.name ++ (codes ":" ++ decimal p.line)) ++ (codes ":" ++ decimal p.column)) ++ text_after (join_rows rows))
