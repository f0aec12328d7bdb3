use Rattle.miette_snippet_laws.proofs.WithoutFolds.{rows_unfolded}
use Rattle.miette_snippet_laws.proofs.range_laws.short_labels_stay.Goals as goal

pub returns : goal.returns
returns c = rows_unfolded
