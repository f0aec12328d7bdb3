use Rattle.std.proofs.Common.{◌≡◌, ◌∷◌, [], ◌++◌, ◌∙◌, ap, map, rules}
use Rattle.miette_columns.specs.views.Walking.{cell_of}
use Rattle.miette_snippet_rules.specs.rules.Highlighting.{highlight_of}
use Rattle.miette_fix_rows.specs.rules.DiffTexts.{diff_pieces}
use Rattle.miette_fix_drawing.specs.steps.Pieces.{prepend_pieces, told}
use Rattle.miette_fix_drawing.proofs.PaintedCells.{come_next, painted_next, pieces_end}
use Rattle.miette_fix_drawing.proofs.edit_pieces.pieces_after.Goals as goal

pub loop-made-preserved : goal.loop-made-preserved
loop-made-preserved c =
    let step : c.loop-made.walk ≡ cell_of c.in-Some.cell ∷ c.next.new.self = search rules in
    record {
      whole = c.in_ok-push_diff_piece.ensures (diff_pieces c.spans_ending_after-rest.result.now c.next.new.self)
          ∙ ap (λ r. map highlight_of c.loop-made.made.items ++ told c.args.style
          (prepend_pieces c.loop-made.reached r))
          (painted_next c.spans_ending_after-rest.result.now c.loop-made.rest.now (cell_of c.in-Some.cell)
          c.loop-made.walk
          c.next.new.self c.piece_of_cell-next.result step c.loop-made.invariant.come
          c.spans_ending_after-rest.ensures.same
          c.piece_of_cell-next.ensures.changed c.piece_of_cell-next.ensures.bytes)
          ∙ c.loop-made.invariant.whole;
      apart = c.spans_ending_after-rest.ensures.apart;
      come = come_next (cell_of c.in-Some.cell) c.loop-made.walk c.next.new.self step c.loop-made.invariant.come;
    }

pub returns : goal.returns
returns c =
    let done : c.loop-made.walk ≡ [] = search rules in
    pieces_end c.args.style c.loop-made.made.items c.push.new.self.items c.piece_of.result c.loop-made.reached
    c.loop-made.rest.now c.loop-made.walk _ done c.in_ok-push.ensures.items c.piece_of.ensures
    c.loop-made.invariant.whole
