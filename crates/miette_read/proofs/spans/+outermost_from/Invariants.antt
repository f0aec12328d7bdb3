use Rattle.miette_read.proofs.spans.+outermost_from.Given as goal

abbrev pub decreases-outermost_from : goal.decreases-outermost_from
decreases-outermost_from l = l.left
