-- The first that reaches is one.
use Rattle.miette_protocol.proofs.Locations.{one_location}
use Rattle.miette_protocol.proofs.span.location_law.Goals as goal

pub returns : goal.returns
returns c = one_location
