use Rattle.std.proofs.Common.{◌≡◌, length, None}
use Rattle.std.specs.List.{last_or}
use Rattle.std.specs.Option.{option_map}
use Rattle.miette_columns.specs.views.Walking.{cell_of}
use Rattle.miette_lint.specs.rules.Findings.{lint_cells_of}
use Rattle.miette_lint.proofs.findings.last_cell.Given as goal

abbrev pub invariant-loop-cell : goal.invariant-loop-cell
invariant-loop-cell l = last_or (option_map cell_of l.last) l.walk ≡ last_or None (lint_cells_of l.start l.text)

abbrev pub decreases-loop-cell : goal.decreases-loop-cell
decreases-loop-cell l = length l.walk
