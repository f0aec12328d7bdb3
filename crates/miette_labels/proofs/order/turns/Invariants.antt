use Rattle.miette_labels.proofs.SortedLabels.{AreTurns}
use Rattle.miette_labels.proofs.order.turns.Given as goal

abbrev pub invariant-loop-index : goal.invariant-loop-index
invariant-loop-index l = AreTurns l.labels l.index l.turns.items
