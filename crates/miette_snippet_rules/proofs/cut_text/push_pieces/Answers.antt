use Rattle.std.proofs.Common.{◌∙◌, drop, map, take, arith}
use Rattle.miette_snippet_rules.specs.rules.Highlighting.{highlight_of}
use Rattle.miette_snippet_rules.proofs.CutPieces.{none_left, pieces_done}
use Rattle.miette_snippet_rules.proofs.CutText.{piece_cut}
use Rattle.miette_snippet_rules.proofs.cut_text.push_pieces.Goals as goal

pub returns-then-bytes-eq0-clause-told : goal.returns-then-bytes-eq0-clause-told
returns-then-bytes-eq0-clause-told g c =
    none_left (map highlight_of (drop c.loop-piece.piece-index c.args.all.now.pieces.now)) c.loop-piece.before
    c.loop-piece.bytes (take c.loop-piece.many c.loop-piece.walk) c.loop-piece.page
    (omega (arith, c.if-bytes-eq0.true)) ∙ c.loop-piece.invariant.told

pub loop-piece-preserved : goal.loop-piece-preserved
loop-piece-preserved g c = record {
  told = piece_cut c.args.all.now.pieces.now c.loop-piece.piece-index c.loop-piece.before c.loop-piece.bytes
      c.saturating_sub-after.result c.min.result _ (take c.loop-piece.many c.loop-piece.walk)
      (take c.in_ok-many.many c.push_some.new.walk)
      c.loop-piece.page c.begin.new.self c.push_some.new.page _ c.saturating_sub-before.result
      c.saturating_sub-bytes.result c.loop-piece-test.true c.saturating_sub-after.ensures c.min.ensures
      c.saturating_sub-before.ensures c.saturating_sub-bytes.ensures
      c.in_ok-begin.ensures c.in_ok-many.ensures.within c.in_ok-many.ensures.beyond c.loop-piece.invariant.told;
  later = c.in_ok-many.ensures.later ∙ c.loop-piece.invariant.later;
}

pub returns-clause-told : goal.returns-clause-told
returns-clause-told g c =
    pieces_done c.args.all.now.pieces.now c.loop-piece.piece-index c.loop-piece.before c.loop-piece.bytes
    (take c.loop-piece.many c.loop-piece.walk) c.loop-piece.page _ c.loop-piece-test.false c.loop-piece.invariant.told
