use Rattle.std.proofs.Common.{◌+◌, ◌++◌, ◌∙◌, ap, map, length, arith}
use Rattle.miette_snippet_rules.specs.rules.Highlighting.{highlight_of}
use Rattle.miette_fix_rows.specs.rules.DiffTexts.{diff_pieces}
use Rattle.miette_fix_drawing.specs.steps.Pieces.{prepend_pieces, told}
use Rattle.miette_fix_drawing.specs.steps.Printable.{cells_past}
use Rattle.miette_fix_drawing.proofs.PaintedCells.{pieces_end}
use Rattle.miette_fix_drawing.proofs.ChangedTexts.{AreAlike, none_past, run_next}
use Rattle.miette_fix_drawing.proofs.ascii_lines.pieces_past.Goals as goal

pub loop-at-preserved : goal.loop-at-preserved
loop-at-preserved c =
    let text = c.args.text.now in
    let next = c.alike_from-next.result in
    let left = c.spans_ending_after-rest.result.now in
    let is : AreAlike left c.loop-at.at (text.start + length text.bytes.now) next = record {
      some = c.alike_from-next.ensures.some;
      within = omega (arith, c.alike_from-next.ensures.within);
      alike = c.alike_from-next.ensures.alike;
    } in
    record {
      whole = c.in_ok-push_diff_piece.ensures (diff_pieces left (cells_past text (c.loop-at.at + next.bytes)))
          ∙ ap (λ r. map highlight_of c.loop-at.made.items ++ told c.args.style (prepend_pieces c.loop-at.reached r))
          (run_next text left c.loop-at.rest.now c.loop-at.at next c.requires.printable c.loop-at.invariant.from
          c.spans_ending_after-rest.ensures.same is)
          ∙ c.loop-at.invariant.whole;
      apart = c.spans_ending_after-rest.ensures.apart;
      from = omega (arith, c.loop-at.invariant.from);
      within = is.within;
    }

pub returns : goal.returns
returns c =
    let text = c.args.text.now in
    pieces_end c.args.style c.loop-at.made.items c.push.new.self.items c.piece_of.result c.loop-at.reached
    c.loop-at.rest.now (cells_past text c.loop-at.at) _
    (none_past text c.loop-at.at (omega (arith, c.loop-at-test.false)))
    c.in_ok-push.ensures.items c.piece_of.ensures c.loop-at.invariant.whole
