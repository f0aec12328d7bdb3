use Rattle.miette_snippet_laws.proofs.FoldedRuns.{ranges_end_kept}
use Rattle.miette_snippet_laws.proofs.range_laws.ranges_end_kept.Goals as goal

pub returns : goal.returns
returns c = ranges_end_kept
