use Rattle.std.proofs.Common.{◌≡◌, ◌-◌, length}
use Rattle.miette_narrated.specs.steps.LabelSweep.{IsSweptTo}
use Rattle.miette_narrated.proofs.label_sweep.take_labels_to.Given as goal

abbrev pub invariant-loop-label : goal.invariant-loop-label
invariant-loop-label l = (l.sweep.at ≡ l.fn.sweep.at) × IsSweptTo l.labels l.sweep.at l.sweep.next l.sweep.running.items

abbrev pub decreases-loop-label : goal.decreases-loop-label
decreases-loop-label l = length l.labels - l.sweep.next
