use Rattle.miette_snippet_laws.proofs.Maximal.{ranges_are_maximal}
use Rattle.miette_snippet_laws.proofs.range_laws.ranges_are_maximal.Goals as goal

pub returns : goal.returns
returns c = ranges_are_maximal
