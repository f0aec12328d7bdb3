use Rattle.std.proofs.Common.{◌≡◌, ◌≤◌, ◌+◌, List, length}
use Rattle.miette_columns.specs.rules.Cells.{Cell}
use Rattle.miette_snippet_rules.specs.rules.PrintedCells.{cells_width}
use Rattle.miette_snippet_rules.specs.views.LineScans.{HasScanned}
use Rattle.miette_snippet_rules.proofs.line_scan.scan_cells.Given as goal

abbrev pub invariant-loop : goal.invariant-loop
invariant-loop l = record {
  passed : (cells : List Cell) → HasScanned cells l.fn.passage
      → HasScanned cells (record { walk = l.walk; reached = l.reached; width = l.width });
  width : cells_width l.width l.walk ≡ cells_width l.fn.passage.width l.fn.passage.walk;
  fewer : length l.walk + l.counter ≤ length l.fn.passage.walk;
}
