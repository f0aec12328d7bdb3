use Rattle.miette_read_laws.proofs.Boundaries.{are_stops}
use Rattle.miette_read_laws.proofs.position_laws.boundaries_are_stops.Goals as goal

pub returns : goal.returns
returns c = are_stops
