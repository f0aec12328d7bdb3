-- The byte ranges of regions, which are given by lines and columns or by offsets.
use Rattle.std.specs.Prelude.{ℕ, zero, suc, ◌+◌, ◌-◌, List, [], ◌∷◌, Option, Some, None, Bool, ◌||◌, ◌==◌, length}
use Rattle.std.specs.Prelude.{if◌then◌else◌, bytes_eq, codes, drop, is_some, nat_le, nat_lt, option_and_then}
use Rattle.std.specs.Prelude.{option_map, take, unwrap_or}
use Rattle.serde_json.specs.Data.{Data}
use Rattle.miette_columns.specs.rules.Cells.{Character, characters}
use Rattle.miette_positions.specs.declared.position.PositionEncoding.{PositionEncoding}
use Rattle.miette_positions.specs.declared.position.PositionEncoding.TheVariants.{Utf16, Utf32}
use Rattle.miette_positions.specs.rules.Stops.{units}
use Rattle.miette_read.specs.rules.Members.{member_text, member_number}
use Rattle.miette_read.specs.rules.Places.{ByteRange}
use Rattle.miette_read.specs.rules.Rustc.{range_from_offsets}
use Rattle.miette_read_sarif.specs.rules.Newlines.{nth_line_start, text_size}

-- The unit of a run's columns. The default is characters.
abbrev pub encoding_of : Data → PositionEncoding
encoding_of run =
    if bytes_eq (unwrap_or (member_text (codes "columnKind") run) []) (codes "utf16CodeUnits") then Utf16 else Utf32

-- The offset `count` code units after `at`. Inside a character it is the character's start. `None` past the end.
abbrev pub units_on : PositionEncoding → ℕ → ℕ → List Character → Option ℕ
units_on e at count [] = if count == 0 then Some at else None
units_on e at count (c ∷ cs) =
    if nat_lt count (units e c) then Some at else units_on e (at + c.bytes) (count - units e c) cs

abbrev pub units_after : PositionEncoding → List ℕ → ℕ → ℕ → Option ℕ
units_after e bytes at count = units_on e at count (characters (drop at bytes))

-- The offset `columns` code units after a line's start, or the end of the line's text if that comes first.
abbrev pub column_before : PositionEncoding → List ℕ → ℕ → ℕ → ℕ → ℕ
column_before e bytes start stop columns = unwrap_or (units_after e (take stop bytes) start columns) stop

-- The offset `columns` columns after a line's start: at most the end of the line's text, and inside a character the
-- character's start.
abbrev pub column_at : PositionEncoding → List (List ℕ) → List ℕ → ℕ → ℕ → ℕ
column_at e newlines bytes start columns =
    column_before e bytes start (start + text_size newlines (drop start bytes)) columns

-- The offset `columns` columns after the start of a line. Line numbers are one-based.
abbrev pub offset_at : PositionEncoding → List (List ℕ) → List ℕ → ℕ → ℕ → Option ℕ
offset_at e newlines bytes zero columns = None
offset_at e newlines bytes (suc k) columns =
    option_map (λ start. column_at e newlines bytes start columns) (nth_line_start newlines bytes 0 k)

abbrev pub start_line : Data → ℕ
start_line r = unwrap_or (member_number (codes "startLine") r) 0

-- The default is column 1.
abbrev pub start_column : Data → ℕ
start_column r = unwrap_or (member_number (codes "startColumn") r) 1

-- The default is the region's first line.
abbrev pub end_line : Data → ℕ
end_line r = unwrap_or (member_number (codes "endLine") r) (start_line r)

-- The number of columns before a region's end. The default is the whole last line, which has at most as many columns as
-- the file has bytes.
abbrev pub end_columns : List ℕ → Option ℕ → ℕ
end_columns bytes None = length bytes
end_columns bytes (Some column) = column - 1

-- The range ends before its end column.
abbrev pub line_range : PositionEncoding → List (List ℕ) → List ℕ → Data → Option ByteRange
line_range e newlines bytes r =
    range_from_offsets (offset_at e newlines bytes (start_line r) (start_column r - 1))
    (offset_at e newlines bytes (end_line r) (end_columns bytes (member_number (codes "endColumn") r)))

-- ---- by offsets

abbrev pub char_range_after : PositionEncoding → List ℕ → ℕ → Option ℕ → Option ByteRange
char_range_after e bytes count None = None
char_range_after e bytes count (Some start) = range_from_offsets (Some start) (units_after e bytes start count)

-- `count` characters starting at a character offset.
abbrev pub char_range : PositionEncoding → List ℕ → ℕ → ℕ → Option ByteRange
char_range e bytes from count = char_range_after e bytes count (units_after e bytes 0 from)

abbrev pub byte_range : List ℕ → ℕ → ℕ → Option ByteRange
byte_range bytes from count =
    if nat_le (from + count) (length bytes) then Some (record { start = from; end = from + count }) else None

-- The default is 0.
abbrev pub offset_or_zero : List ℕ → Data → ℕ
offset_or_zero key r = unwrap_or (member_number key r) 0

abbrev pub range_by_chars : PositionEncoding → List ℕ → Data → Option ByteRange
range_by_chars e bytes r =
    option_and_then (λ from. char_range e bytes from (offset_or_zero (codes "charLength") r))
    (member_number (codes "charOffset") r)

abbrev pub range_by_bytes : List ℕ → Data → Option ByteRange
range_by_bytes bytes r =
    option_and_then (λ from. byte_range bytes from (offset_or_zero (codes "byteLength") r))
    (member_number (codes "byteOffset") r)

-- ---- all of it

abbrev pub has_line : Data → Bool
has_line r = is_some (member_number (codes "startLine") r)

abbrev pub has_chars : Data → Bool
has_chars r = is_some (member_number (codes "charOffset") r)

abbrev pub has_bytes : Data → Bool
has_bytes r = is_some (member_number (codes "byteOffset") r)

-- Whether the region has a start.
abbrev pub has_begin : Data → Bool
has_begin r = has_line r || (has_chars r || has_bytes r)

-- The range of a region: by lines if it has any, else by characters, else by bytes.
abbrev pub region_range : PositionEncoding → List (List ℕ) → List ℕ → Data → Option ByteRange
region_range e newlines bytes r =
    if has_line r then line_range e newlines bytes r
    else if has_chars r then range_by_chars e bytes r else range_by_bytes bytes r
