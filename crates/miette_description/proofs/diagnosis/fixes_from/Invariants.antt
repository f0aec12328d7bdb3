use Rattle.miette_description.specs.rules.Members.{fix_of}
use Rattle.miette_description.proofs.Lists.{ReadSoFar}
use Rattle.miette_description.proofs.diagnosis.fixes_from.Given as goal

abbrev pub invariant-loop-item : goal.invariant-loop-item
invariant-loop-item l = ReadSoFar fix_of l.list l.fixes.items l.item-index
