use Rattle.miette_snippet_rules.proofs.CellPrints.{piece_end, piece_more}
use Rattle.std.proofs.Common.{refl}
use Rattle.std.proofs.lemmas.Result.{on_ok_weaker}
use Rattle.miette_snippet_rules.proofs.line_printing.push_line_text.Goals as goal

pub loop-piece-preserved : goal.loop-piece-preserved
loop-piece-preserved g c =
    piece_more c.args.pieces.now c.loop-piece.piece-index _ _ _ c.loop-piece.walk c.push_cells_within.new.walk
    c.loop-piece.page c.begin.new.self c.push_cells_within.new.page _
    c.loop-piece-test.true refl refl c.in_ok-begin.ensures c.in_ok-push_cells_within.ensures.within
    c.in_ok-push_cells_within.ensures.beyond c.loop-piece.invariant

pub returns : goal.returns
returns g c =
    on_ok_weaker c.push_cells.result (λ h.
    piece_end c.args.pieces.now c.loop-piece.piece-index c.loop-piece.walk c.loop-piece.page c.begin-2.new.self
    c.push_cells.new.page _ c.loop-piece-test.false c.in_ok-begin-2.ensures h
    c.loop-piece.invariant) c.push_cells.ensures
