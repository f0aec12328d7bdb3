use Rattle.miette_snippet_laws.proofs.MaximalRanges.{snippets_are_runs}
use Rattle.miette_snippet_laws.proofs.range_laws.snippets_draw_ranges.Goals as goal

pub returns : goal.returns
returns c = snippets_are_runs
