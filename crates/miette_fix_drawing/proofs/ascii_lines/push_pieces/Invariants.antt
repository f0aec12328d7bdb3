use Rattle.std.proofs.Common.{◌≡◌, true, drop, map}
use Rattle.std.specs.List.{list_all}
use Rattle.miette_columns.specs.views.Printable.{is_printable}
use Rattle.miette_style.specs.views.Printouts.{◌⊕◌}
use Rattle.miette_snippet_rules.specs.rules.Highlighting.{highlight_of}
use Rattle.miette_fix_drawing.specs.steps.Printable.{pieces_told}
use Rattle.miette_fix_drawing.proofs.ascii_lines.push_pieces.Given as goal

abbrev pub invariant-loop-piece : goal.invariant-loop-piece
invariant-loop-piece g l = record {
  printable : list_all is_printable l.rest ≡ true;
  told : l.page ⊕ pieces_told (map highlight_of (drop l.piece-index l.pieces)) l.rest
      ≡ l.fn.page ⊕ pieces_told (map highlight_of l.fn.pieces) l.fn.text;
}
