use Rattle.std.proofs.Common.{◌≡◌, take}
use Rattle.miette_labels.proofs.sweep.copy_of.Given as goal

abbrev pub invariant-loop-label : goal.invariant-loop-label
invariant-loop-label l = l.copy.items ≡ take l.label-index l.labels
