use Rattle.miette_columns.specs.views.Walking.{cell_of}
use Rattle.miette_snippet_rules.proofs.CellPrints.{tab_put}
use Rattle.miette_snippet_rules.proofs.cells.push_cell.Goals as goal

pub returns-in_ok-push_copies : goal.returns-in_ok-push_copies
returns-in_ok-push_copies g c =
    tab_put (cell_of c.args.cell.now) c.saturating_sub.result c.args.page.now c.push_copies.new.self c.if-cell-eq9.true
    c.saturating_sub.ensures c.in_ok-push_copies.ensures
