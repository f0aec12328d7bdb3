use Rattle.std.proofs.Common.{◌≡◌, ◌∷◌, rules}
use Rattle.miette_columns.specs.views.Walking.{cell_of}
use Rattle.miette_snippet_rules.proofs.CellPrints.{cells_more}
use Rattle.miette_snippet_rules.proofs.cells.push_cells.Goals as goal

pub loop-cell-preserved : goal.loop-cell-preserved
loop-cell-preserved g c =
    let step : c.loop-cell.walk ≡ cell_of c.in-Some.cell ∷ c.next.new.self = search rules in
    cells_more (cell_of c.in-Some.cell) c.loop-cell.walk c.next.new.self c.loop-cell.page c.push_cell.new.page _ step
    c.in_ok-push_cell.ensures c.loop-cell.invariant
