use Rattle.std.proofs.Common.{◌≡◌, ◌≤◌, ◌-◌, ◌++◌, ℕ, List, true, map, length}
use Rattle.std.specs.List.{list_all}
use Rattle.miette_columns.specs.rules.Cells.{Cell}
use Rattle.miette_columns.specs.views.Printable.{is_printable, plain_cells}
use Rattle.miette_snippet_rules.specs.rules.CutLines.{line_parts}
use Rattle.miette_snippet_rules.specs.views.Cuts.{measure}
use Rattle.miette_snippet_cuts.specs.steps.LineParts.{prepend_made}
use Rattle.miette_snippet_cuts.specs.steps.Nearness.{near_by}
use Rattle.miette_snippet_cuts.proofs.PlainStretches.{made_after}
use Rattle.miette_snippet_cuts.proofs.plain_parts.push_plain_parts.Given as goal

abbrev pub invariant-loop-column : goal.invariant-loop-column
invariant-loop-column l = record {
  nearness : l.nearness ≡ l.fn.nearness;
  within : l.column ≤ l.end;
  from : l.plain.from ≤ l.column;
  told : (bytes : List ℕ) (rest : List Cell) → list_all is_printable bytes ≡ true → length bytes ≡ l.plain.many →
      l.made.items ++ prepend_made l.reached (made_after l.fn.nearness.room l.fn.nearness.ends l.reached.shown l.plain
      bytes rest l.column)
      ≡ l.fn.made.items ++ prepend_made l.fn.reached (map measure (line_parts
      (near_by l.fn.nearness.room l.fn.nearness.ends) l.fn.reached.shown
      (plain_cells l.plain.start l.plain.from bytes ++ rest)));
}

abbrev pub decreases-loop-column : goal.decreases-loop-column
decreases-loop-column l = l.end - l.column
