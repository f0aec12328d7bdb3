use Rattle.miette_snippet_folds.proofs.AroundLines.{AreUntils}
use Rattle.miette_snippet_folds.proofs.extent_index.untils_of.Given as goal

abbrev pub invariant-loop-label : goal.invariant-loop-label
invariant-loop-label l = AreUntils l.labels l.made.items l.label-index l.most
