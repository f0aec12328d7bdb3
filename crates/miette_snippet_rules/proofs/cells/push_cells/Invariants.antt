use Rattle.miette_style.specs.views.Printouts.{◌⊕◌}
use Rattle.std.proofs.Common.{◌≡◌, length}
use Rattle.miette_snippet_rules.specs.steps.CellTokens.{cells_tokens}
use Rattle.miette_snippet_rules.proofs.cells.push_cells.Given as goal

abbrev pub invariant-loop-cell : goal.invariant-loop-cell
invariant-loop-cell g l = l.page ⊕ cells_tokens l.walk ≡ l.fn.page ⊕ cells_tokens l.fn.walk

abbrev pub decreases-loop-cell : goal.decreases-loop-cell
decreases-loop-cell g l = length l.walk
