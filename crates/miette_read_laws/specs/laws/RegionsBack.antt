-- The byte ranges that the lines and columns of our logs are read as.
use Rattle.std.specs.Prelude.{ℕ, ◌+◌, ◌≤◌, List, [], ◌∷◌, Option}
use Rattle.std.specs.List.{Contains}
use Rattle.miette_positions.specs.declared.position.PositionEncoding.TheVariants.{Utf16}
use Rattle.miette_positions.specs.declared.position.Stop.{Stop}
use Rattle.miette_positions.specs.declared.position.Stretch.{Stretch}
use Rattle.miette_positions.specs.rules.Stops.{stops_of}
use Rattle.miette_read.specs.rules.Places as places
use Rattle.miette_read.specs.rules.Rustc.{range_from_offsets}
use Rattle.miette_read_sarif.specs.rules.Regions.{offset_at}

-- The newline sequences of our logs: CR LF, LF and CR.
abbrev pub log_newlines : List (List ℕ)
log_newlines = (13 ∷ (10 ∷ [])) ∷ ((10 ∷ []) ∷ ((13 ∷ []) ∷ []))

-- An offset at which the source can be cut.
abbrev pub IsStop : List ℕ → Stop → Type 0
IsStop bytes s = Contains (stops_of Utf16 bytes) s

-- A range between two such offsets. It doesn't end before its start.
pub record IsIn (bytes : List ℕ) (s : Stretch) : Type 0 where
  pub start : IsStop bytes s.start
  pub end : IsStop bytes s.end
  pub order : s.start.offset ≤ s.end.offset

-- The offset that a line and column are read as.
abbrev pub offset_back : List ℕ → Stop → Option ℕ
offset_back bytes s = offset_at Utf16 log_newlines bytes (s.position.line + 1) s.position.column

-- The range that lines and columns are read as.
abbrev pub lines_back : List ℕ → Stretch → Option places.ByteRange
lines_back bytes s = range_from_offsets (offset_back bytes s.start) (offset_back bytes s.end)

abbrev pub offsets_of : Stretch → places.ByteRange
offsets_of s = record { start = s.start.offset; end = s.end.offset }
