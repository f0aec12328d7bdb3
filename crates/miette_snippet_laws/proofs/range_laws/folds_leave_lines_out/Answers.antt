use Rattle.miette_snippet_laws.proofs.FoldedPairs.{folds_pair}
use Rattle.miette_snippet_laws.proofs.range_laws.folds_leave_lines_out.Goals as goal

pub returns : goal.returns
returns c = folds_pair
