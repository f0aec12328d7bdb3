use Rattle.std.proofs.Common.{◌≡◌, drop}
use Rattle.std.specs.List.{list_any}
use Rattle.miette_columns.specs.views.Walking.{cell_of}
use Rattle.miette_fix_rows.specs.rules.DiffTexts.{holds_byte}
use Rattle.miette_fix_drawing.proofs.spans.some_holds_byte.Given as goal

abbrev pub invariant-loop-span : goal.invariant-loop-span
invariant-loop-span l =
    list_any (holds_byte (cell_of l.cell)) (drop l.span-index l.spans)
    ≡ list_any (holds_byte (cell_of l.cell)) l.spans
