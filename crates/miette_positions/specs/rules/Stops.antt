-- Where a source can be cut, and the positions of these stops.
use Rattle.std.specs.Prelude.{ℕ, ◌+◌, List, [], ◌∷◌, drop, Bool, false, ◌&&◌, ◌||◌, ◌==◌, nat_lt, nat_le, if◌then◌else◌}
use Rattle.miette_columns.specs.rules.Cells.{Character, characters}
use Rattle.miette_lines.specs.rules.Lines.{LF, CR}
use Rattle.miette_positions.specs.declared.position.Position.{Position}
use Rattle.miette_positions.specs.declared.position.PositionEncoding.{PositionEncoding}
use Rattle.miette_positions.specs.declared.position.PositionEncoding.TheVariants.{Utf8, Utf16, Utf32}
use Rattle.miette_positions.specs.declared.position.Stop.{Stop}

-- the number of code units of a character
abbrev pub units : PositionEncoding → Character → ℕ
units Utf8 c = c.bytes
units Utf16 c = if nat_lt c.code 0x10000 then 1 else 2
units Utf32 c = 1

-- whether a character ends a line, alone or after a CR
abbrev pub is_newline : Character → Bool
is_newline c = (c.code == LF) || (c.code == CR)

-- whether an LF comes first
abbrev pub begins_with_lf : List Character → Bool
begins_with_lf [] = false
begins_with_lf (c ∷ cs) = c.code == LF

-- a CR followed by an LF: both are one terminator
abbrev pub is_pair : Character → List Character → Bool
is_pair c cs = (c.code == CR) && begins_with_lf cs

-- the position after a character: on the next line after a terminator, else further by its code units
abbrev pub position_after : PositionEncoding → Position → Character → Position
position_after e p c =
    if is_newline c then record { line = p.line + 1; column = 0 }
    else record { line = p.line; column = p.column + units e c }

abbrev pub stop_past : PositionEncoding → Stop → Character → Stop
stop_past e s c = record { offset = s.offset + c.bytes; position = position_after e s.position c }

-- a stop with the same position, `n` bytes further
abbrev pub moved_by : ℕ → Stop → Stop
moved_by n s = record { offset = s.offset + n; position = s.position }

-- the stops after one: after each character, but not between CR and LF
abbrev pub stops_after : PositionEncoding → Stop → List Character → List Stop
stops_after e s [] = []
stops_after e s (c ∷ cs) =
    if is_pair c cs then stops_after e (moved_by c.bytes s) cs
    else stop_past e s c ∷ stops_after e (stop_past e s c) cs

-- the stops of a source after one of them
abbrev pub stops_from : PositionEncoding → List ℕ → Stop → List Stop
stops_from e source s = stops_after e s (characters (drop s.offset source))

-- the first stop: line 0, column 0
abbrev pub start : Stop
start = record { offset = 0; position = record { line = 0; column = 0 } }

-- all stops of a source
abbrev pub stops_of : PositionEncoding → List ℕ → List Stop
stops_of e source = start ∷ stops_from e source start

-- whether a position is equal to another one or precedes it
abbrev pub is_until : Position → Position → Bool
is_until p q = nat_lt p.line q.line || ((p.line == q.line) && nat_le p.column q.column)
