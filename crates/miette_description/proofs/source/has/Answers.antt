use Rattle.std.proofs.Common.{ap}
use Rattle.std.specs.Prelude.{is_some}
use Rattle.miette_description.proofs.source.has.Goals as goal

pub returns-in-Some : goal.returns-in-Some
returns-in-Some c = ap is_some c.in-Some.ensures

pub returns-in-None : goal.returns-in-None
returns-in-None c = ap is_some c.in-None.ensures
