use Rattle.std.proofs.Common.{◌≡◌, length}
use Rattle.miette_show_rows.specs.rules.Looking.{goes_up}
use Rattle.miette_show_rows.proofs.rewrite.goes_up.Given as goal

-- it stands in what is left where it stands in the name
abbrev pub invariant-loop-more : goal.invariant-loop-more
invariant-loop-more l = goes_up l.rest ≡ goes_up l.name

abbrev pub decreases-loop-more : goal.decreases-loop-more
decreases-loop-more l = length l.rest
