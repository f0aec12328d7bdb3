use Rattle.miette_description.specs.rules.Members.{edit_of}
use Rattle.miette_description.specs.steps.OptionalParts.{edited}
use Rattle.miette_description.proofs.Lists.{MadeSoFar}
use Rattle.miette_description.proofs.diagnosis.with_edits.Given as goal

abbrev pub invariant-loop-item : goal.invariant-loop-item
invariant-loop-item l = MadeSoFar edit_of l.list (edited l.fn.fix) (edited l.fixed) l.item-index
