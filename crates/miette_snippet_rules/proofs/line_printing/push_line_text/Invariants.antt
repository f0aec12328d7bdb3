use Rattle.miette_style.specs.views.Printouts.{◌⊕◌}
use Rattle.std.proofs.Common.{◌≡◌, map, drop}
use Rattle.miette_style.specs.views.Tokens.{row_tokens}
use Rattle.miette_snippet_rules.specs.rules.PrintedCells.{line_runs}
use Rattle.miette_snippet_rules.specs.rules.Highlighting.{highlight_of}
use Rattle.miette_snippet_rules.proofs.line_printing.push_line_text.Given as goal

abbrev pub invariant-loop-piece : goal.invariant-loop-piece
invariant-loop-piece g l = l.page ⊕ row_tokens (line_runs (map highlight_of (drop l.piece-index l.pieces)) l.walk)
    ≡ l.fn.page ⊕ row_tokens (line_runs (map highlight_of l.pieces) l.fn.walk)
