use Rattle.miette_style.specs.views.Printouts.{◌⊕◌}
use Rattle.std.proofs.Common.{◌≡◌, map, take, drop}
use Rattle.miette_style.specs.views.Tokens.{row_tokens}
use Rattle.miette_snippet_rules.specs.rules.CutLines.{pieces_within}
use Rattle.miette_snippet_rules.specs.rules.Highlighting.{highlight_of}
use Rattle.miette_snippet_rules.specs.rules.PrintedCells.{line_runs}
use Rattle.miette_snippet_rules.proofs.cut_text.push_pieces.Given as goal

abbrev pub invariant-loop-piece : goal.invariant-loop-piece
invariant-loop-piece g l = record {
  told : l.page ⊕ row_tokens (line_runs (pieces_within l.before l.bytes
      (map highlight_of (drop l.piece-index l.all.pieces.now))) (take l.many l.walk))
      ≡ l.fn.page ⊕ row_tokens (line_runs (pieces_within l.fn.all.before l.fn.part.bytes
      (map highlight_of l.all.pieces.now)) (take l.fn.part.cells l.fn.walk));
  later : drop l.many l.walk ≡ drop l.fn.part.cells l.fn.walk;
}
