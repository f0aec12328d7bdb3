use Rattle.miette_description.specs.rules.Members.{label_of}
use Rattle.miette_description.proofs.Lists.{ReadSoFar}
use Rattle.miette_description.proofs.parts.labels_from.Given as goal

abbrev pub invariant-loop-item : goal.invariant-loop-item
invariant-loop-item l = ReadSoFar label_of l.list l.labels.items l.item-index
