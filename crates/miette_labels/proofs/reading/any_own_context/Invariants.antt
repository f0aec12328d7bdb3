use Rattle.std.proofs.Common.{◌≡◌, drop}
use Rattle.miette_labels.specs.rules.Around.{has_own_context}
use Rattle.miette_labels.proofs.reading.any_own_context.Given as goal

abbrev pub invariant-loop-label : goal.invariant-loop-label
invariant-loop-label l = has_own_context (drop l.label-index l.labels) ≡ has_own_context l.labels
