use Rattle.std.proofs.Common.{◌≡◌, length}
use Rattle.std.specs.Prelude.{find, nat_lt}
use Rattle.miette_lint.specs.rules.Findings.{lint_cells_of}
use Rattle.miette_lint.proofs.findings.first_past.Given as goal

abbrev pub invariant-loop-cell : goal.invariant-loop-cell
invariant-loop-cell l = find (λ c. nat_lt l.width c.until) l.walk
    ≡ find (λ c. nat_lt l.width c.until) (lint_cells_of l.start l.text)

abbrev pub decreases-loop-cell : goal.decreases-loop-cell
decreases-loop-cell l = length l.walk
