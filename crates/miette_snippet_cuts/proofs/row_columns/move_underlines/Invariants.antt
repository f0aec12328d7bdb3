use Rattle.std.proofs.Common.{◌≡◌, map, take}
use Rattle.miette_snippet_cuts.specs.steps.LineParts.{made_underline}
use Rattle.miette_snippet_cuts.specs.steps.Moving.{IsRowCursor}
use Rattle.miette_snippet_cuts.proofs.row_columns.move_underlines.Given as goal

abbrev pub invariant-loop-mark : goal.invariant-loop-mark
invariant-loop-mark l = record {
  moved : l.moved.items ≡ map (made_underline l.fn.dots l.fn.cut) (take l.mark-index l.marks);
  place : IsRowCursor l.fn.dots l.fn.cut l.place;
}
