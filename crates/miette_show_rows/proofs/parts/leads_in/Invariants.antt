use Rattle.std.proofs.Common.{◌≡◌, length}
use Rattle.miette_show_rows.specs.rules.Rows.{leads_in}
use Rattle.miette_show_rows.proofs.parts.leads_in.Given as goal

-- what is left begins so where all does
abbrev pub invariant-loop-first : goal.invariant-loop-first
invariant-loop-first l = leads_in l.rest ≡ leads_in l.bytes

abbrev pub decreases-loop-first : goal.decreases-loop-first
decreases-loop-first l = length l.rest
