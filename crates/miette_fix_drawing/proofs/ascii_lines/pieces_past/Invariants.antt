use Rattle.std.proofs.Common.{◌+◌, ◌-◌, ◌≡◌, ◌≤◌, ◌++◌, map, length}
use Rattle.miette_snippet_rules.specs.rules.Highlighting.{highlight_of}
use Rattle.miette_fix_rows.specs.rules.DiffTexts.{diff_pieces}
use Rattle.miette_fix_drawing.specs.steps.Pieces.{prepend_pieces, told}
use Rattle.miette_fix_drawing.specs.steps.Printable.{cells_past}
use Rattle.miette_fix_drawing.specs.steps.Spans.{AreApart}
use Rattle.miette_fix_drawing.proofs.ascii_lines.pieces_past.Given as goal

abbrev pub invariant-loop-at : goal.invariant-loop-at
invariant-loop-at l = record {
  whole : map highlight_of l.made.items ++ told l.fn.style (prepend_pieces l.reached
      (diff_pieces l.rest (cells_past l.text l.at)))
      ≡ told l.fn.style (prepend_pieces l.fn.first
      (diff_pieces l.fn.spans (cells_past l.fn.text (l.fn.text.start + l.fn.first.bytes))));
  apart : AreApart l.rest;
  from : l.text.start ≤ l.at;
  within : l.at ≤ l.text.start + length l.text.bytes.now;
}

abbrev pub decreases-loop-at : goal.decreases-loop-at
decreases-loop-at l = l.text.start + length l.text.bytes.now - l.at
