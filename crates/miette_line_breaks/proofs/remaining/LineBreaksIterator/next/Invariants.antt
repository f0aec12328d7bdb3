use Rattle.std.proofs.Common.{◌≡◌, length}
use Rattle.miette_line_breaks.specs.views.Left.{breaks_left}
use Rattle.miette_line_breaks.proofs.remaining.LineBreaksIterator.next.Given as goal

abbrev pub invariant-loop-c : goal.invariant-loop-c
invariant-loop-c l = breaks_left l.self ≡ breaks_left l.initial.self

abbrev pub decreases-loop-c : goal.decreases-loop-c
decreases-loop-c l = length l.self.rest.now
