use Rattle.miette_snippet_folds.proofs.NearFolds.{AreSomeStops}
use Rattle.miette_snippet_folds.proofs.fold_index.stops_of.Given as goal

abbrev pub invariant-loop-k : goal.invariant-loop-k
invariant-loop-k l = AreSomeStops l.folds l.made.items l.k l.least
