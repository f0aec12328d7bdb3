use Rattle.miette_snippet_folds.proofs.AroundLines.{AreFroms}
use Rattle.miette_snippet_folds.proofs.extent_index.froms_of.Given as goal

abbrev pub invariant-loop-k : goal.invariant-loop-k
invariant-loop-k l = AreFroms l.labels l.made.items l.k l.least
