use Rattle.std.proofs.Common.{ap, refl}
use Rattle.miette_fix_drawing.proofs.Painting.{made_of, put_other, put_same}
use Rattle.miette_fix_drawing.proofs.edit_pieces.push_diff_piece.Goals as goal

pub returns-then-same : goal.returns-then-same
returns-then-same c = λ rest. put_same _ _ c.args.style c.args.reached.now c.args.next _ rest c.if-same.true
    (ap (made_of c.args.reached.now.changed) c.in_ok-bytes.ensures) refl

pub returns : goal.returns
returns c = λ rest. put_other _ _ c.piece_of.result c.args.style c.args.reached.now c.args.next rest c.if-same.false
    c.piece_of.ensures c.in_ok-push.ensures.items
