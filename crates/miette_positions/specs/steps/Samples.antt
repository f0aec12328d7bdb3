-- A search over the stops of a source, from the start or from a sampled stop.
use Rattle.std.specs.Prelude.{◌≡◌, ℕ, ◌*◌, ◌≤◌, List, length, Bool, true, nat_le}
use Rattle.miette_positions.specs.declared.position.PositionEncoding.{PositionEncoding}
use Rattle.miette_positions.specs.declared.position.Stop.{Stop}
use Rattle.miette_positions.specs.declared.sampled_source.SearchTarget.{SearchTarget}
use Rattle.miette_positions.specs.declared.sampled_source.SearchTarget.TheVariants.{ToOffset, ToPosition}
use Rattle.miette_positions.specs.rules.Regions.{first_stop, last_stop}
use Rattle.miette_positions.specs.rules.Stops.{start, stops_from, is_until}

-- a stop isn't after the target
abbrev pub is_reached : SearchTarget → Stop → Bool
is_reached (ToOffset at) s = nat_le s.offset at
is_reached (ToPosition p) s = is_until s.position p

-- the last stop that isn't after the target
abbrev pub stop_for : PositionEncoding → List ℕ → SearchTarget → Stop
stop_for e source target = last_stop (is_reached target) start (stops_from e source start)

-- its numbers are bounded by the length of the source
pub record IsWithin (source : List ℕ) (s : Stop) : Type 0 where
  pub offset : s.offset ≤ length source
  pub line : s.position.line ≤ s.offset
  pub column : s.position.column ≤ 2 * s.offset

-- a search from this stop finds the same as one from the start
pub record IsSample (e : PositionEncoding) (source : List ℕ) (m : Stop) : Type 0 where
  pub within : IsWithin source m
  pub last : (target : SearchTarget) → is_reached target m ≡ true →
      last_stop (is_reached target) m (stops_from e source m) ≡ stop_for e source target
  pub first : (at : ℕ) → m.offset ≤ at →
      first_stop (λ s. nat_le at s.offset) m (stops_from e source m)
      ≡ first_stop (λ s. nat_le at s.offset) start (stops_from e source start)
