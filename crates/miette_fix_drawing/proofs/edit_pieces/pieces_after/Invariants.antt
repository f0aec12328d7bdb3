use Rattle.std.proofs.Common.{◌≡◌, ◌++◌, map, length}
use Rattle.miette_snippet_rules.specs.rules.Highlighting.{highlight_of}
use Rattle.miette_snippet_rules.specs.views.LineScans.{ComeFrom}
use Rattle.miette_fix_rows.specs.rules.DiffTexts.{diff_pieces}
use Rattle.miette_fix_drawing.specs.steps.Pieces.{prepend_pieces, told}
use Rattle.miette_fix_drawing.specs.steps.Spans.{AreApart}
use Rattle.miette_fix_drawing.proofs.edit_pieces.pieces_after.Given as goal

abbrev pub invariant-loop-made : goal.invariant-loop-made
invariant-loop-made l = record {
  whole : map highlight_of l.made.items ++ told l.fn.style (prepend_pieces l.reached (diff_pieces l.rest l.walk))
      ≡ told l.fn.style (prepend_pieces l.fn.first (diff_pieces l.fn.spans l.fn.walk));
  apart : AreApart l.rest;
  come : ComeFrom 0 l.walk;
}

abbrev pub decreases-loop-made : goal.decreases-loop-made
decreases-loop-made l = length l.walk
