-- Offsets and positions of a source, and the regions of spans.
use Rattle.std.specs.Prelude.{ℕ, ◌+◌, ◌-◌, min, List, [], ◌∷◌, length, Bool, ◌&&◌, ◌==◌, nat_le, if◌then◌else◌}
use Rattle.std.specs.Prelude.{Option, Some, None}
use Rattle.miette_protocol.specs.rules.Reading.{Span, is_in_bounds}
use Rattle.miette_positions.specs.declared.position.Position.{Position}
use Rattle.miette_positions.specs.declared.position.PositionEncoding.{PositionEncoding}
use Rattle.miette_positions.specs.declared.position.Region.{Region}
use Rattle.miette_positions.specs.declared.position.Stop.{Stop}
use Rattle.miette_positions.specs.declared.position.Stretch.{Stretch}
use Rattle.miette_positions.specs.rules.Stops.{start, stops_from, is_until}

-- a source, and how its columns are counted
pub record EncodedSource : Type 0 where
  pub source : List ℕ
  pub encoding : PositionEncoding

-- the last stop, starting with the given one, before the first that fails a test
abbrev pub last_stop : (Stop → Bool) → Stop → List Stop → Stop
last_stop test s [] = s
last_stop test s (t ∷ ts) = if test t then last_stop test t ts else s

-- the first stop, starting with the given one, that passes a test, or the last stop
abbrev pub first_stop : (Stop → Bool) → Stop → List Stop → Stop
first_stop test s [] = s
first_stop test s (t ∷ ts) = if test s then s else first_stop test t ts

-- ---- rounding

-- the last stop at or before an offset
abbrev pub stop_before : PositionEncoding → List ℕ → ℕ → Stop
stop_before e source at = last_stop (λ s. nat_le s.offset at) start (stops_from e source start)

-- the first stop at or after an offset, or the end of the source if there is none
abbrev pub stop_after : PositionEncoding → List ℕ → ℕ → Stop
stop_after e source at = first_stop (λ s. nat_le at s.offset) start (stops_from e source start)

-- The last stop at or before a position. For a position after a line's text, that is the text's end; inside a
-- character, its start; after the last line, the end of the source.
abbrev pub stop_at : PositionEncoding → List ℕ → Position → Stop
stop_at e source p = last_stop (λ s. is_until s.position p) start (stops_from e source start)

-- ---- spans and regions

-- where a span ends, cut to the end of the source
abbrev pub clamped_end : List ℕ → Span → ℕ
clamped_end source span = min (length source) (span.offset + span.len)

-- The stops of a span: its start rounded down, its end rounded up. Both ends of an empty span are rounded down.
abbrev pub stretch : PositionEncoding → List ℕ → Span → Stretch
stretch e source span = record {
  start = stop_before e source span.offset;
  end = if nat_le (clamped_end source span) span.offset then stop_before e source span.offset
      else stop_after e source (clamped_end source span);
}

-- the same for an in-bounds span
abbrev pub stretch_of : PositionEncoding → List ℕ → Span → Option Stretch
stretch_of e source span = if is_in_bounds source span then Some (stretch e source span) else None

abbrev pub region : Stretch → Region
region s = record { start = s.start.position; end = s.end.position }

abbrev pub region_of : PositionEncoding → List ℕ → Span → Option Region
region_of e source span = if is_in_bounds source span then Some (region (stretch e source span)) else None

abbrev pub is_same : Position → Position → Bool
is_same p q = (p.line == q.line) && (p.column == q.column)

-- the offset of the stop that has this position
abbrev pub offset_of : PositionEncoding → List ℕ → Position → Option ℕ
offset_of e source p = if is_same (stop_at e source p).position p then Some (stop_at e source p).offset else None

-- the span between two offsets, if both exist and the second doesn't precede the first
abbrev pub span_between : Option ℕ → Option ℕ → Option Span
span_between None _ = None
span_between (Some from) None = None
span_between (Some from) (Some to) = if nat_le from to then Some (record { offset = from; len = to - from }) else None

abbrev pub span_of : PositionEncoding → List ℕ → Region → Option Span
span_of e source r = span_between (offset_of e source r.start) (offset_of e source r.end)
