use Rattle.std.proofs.Common.{◌≡◌, ◌≤◌, ◌-◌, ◌++◌, ℕ, List, true, length}
use Rattle.std.specs.List.{list_all}
use Rattle.miette_columns.specs.rules.Cells.{Cell}
use Rattle.miette_columns.specs.views.Printable.{is_printable, plain_cells}
use Rattle.miette_snippet_cuts.specs.steps.Counting.{whole_count}
use Rattle.miette_snippet_cuts.specs.steps.Nearness.{near_by}
use Rattle.miette_snippet_cuts.proofs.CountedColumns.{cells_after}
use Rattle.miette_snippet_cuts.proofs.counting.count_plain.Given as goal

abbrev pub invariant-loop-column : goal.invariant-loop-column
invariant-loop-column l = record {
  nearness : l.nearness ≡ l.fn.nearness;
  within : l.column ≤ l.end;
  from : l.plain.from ≤ l.column;
  told : (bytes : List ℕ) (rest : List Cell) → list_all is_printable bytes ≡ true → length bytes ≡ l.plain.many →
      whole_count l.room.dots (near_by l.fn.nearness.room l.fn.nearness.ends) l.count
      (cells_after l.plain bytes rest l.column)
      ≡ whole_count l.room.dots (near_by l.fn.nearness.room l.fn.nearness.ends) l.fn.count
      (plain_cells l.plain.start l.plain.from bytes ++ rest);
}

abbrev pub decreases-loop-column : goal.decreases-loop-column
decreases-loop-column l = l.end - l.column
