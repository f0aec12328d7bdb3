use Rattle.miette_snippet_laws.proofs.MaximalRanges.{groups_runs}
use Rattle.miette_snippet_laws.proofs.range_laws.groups_are_ranges.Goals as goal

pub returns : goal.returns
returns c = groups_runs
