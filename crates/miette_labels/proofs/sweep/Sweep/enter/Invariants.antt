use Rattle.std.proofs.Common.{◌-◌, length}
use Rattle.miette_lines.specs.views.Walking.{line_of_text}
use Rattle.miette_labels.proofs.Swept.{IsSwept}
use Rattle.miette_labels.proofs.sweep.Sweep.enter.Given as goal

abbrev pub invariant-loop-next : goal.invariant-loop-next
invariant-loop-next l = IsSwept l.labels (line_of_text l.line) l.next l.self.alone.items l.self.running.items

abbrev pub decreases-loop-next : goal.decreases-loop-next
decreases-loop-next l = length l.labels - l.next
