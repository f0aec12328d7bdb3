use Rattle.miette_style.specs.views.Printouts.{Printout, ◌⊕◌}
use Rattle.std.proofs.Common.{◌≡◌, List, map, length}
use Rattle.miette_style.specs.rules.Rows.{Run}
use Rattle.miette_style.specs.views.Tokens.{row_tokens}
use Rattle.miette_columns.specs.rules.Cells.{Cell}
use Rattle.miette_snippet_rules.specs.rules.Highlighting.{highlight_of}
use Rattle.miette_snippet_rules.specs.declared.line_part.LinePart.{LinePart}
use Rattle.miette_snippet_rules.specs.views.Cuts.{cut_cells}
use Rattle.miette_snippet_rules.proofs.cut_text.pieces_after.Given as goal

abbrev pub invariant-loop-piece : goal.invariant-loop-piece
invariant-loop-piece l = (run : Run) (cut : List LinePart) (cells : List Cell) (page : Printout) →
    page ⊕ row_tokens (cut_cells run (map highlight_of l.rest) l.before cut cells)
    ≡ page ⊕ row_tokens (cut_cells run (map highlight_of l.fn.all.pieces.now) l.fn.all.before cut cells)

abbrev pub decreases-loop-piece : goal.decreases-loop-piece
decreases-loop-piece l = length l.rest
