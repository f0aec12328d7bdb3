use Rattle.std.proofs.Common.{◌+◌, ◌∙◌, ap, arith}
use Rattle.miette_fix_drawing.proofs.Framing.{bytes_end, bytes_more, texts_size}
use Rattle.miette_fix_drawing.proofs.frame_lines.removed_bytes.Goals as goal

pub loop-change-preserved : goal.loop-change-preserved
loop-change-preserved c =
    bytes_more c.args.changes.now c.loop-change.change-index c.loop-change.size c.in_ok-size.size _
    c.change-item.result c.loop-change-test.true c.change-item.is
    (c.in_ok-size.ensures
    ∙ ap (λ n. c.loop-change.size + n) (texts_size c.removed.result.now _ c.removed.ensures.lines))
    c.loop-change.invariant

pub returns : goal.returns
returns c =
    bytes_end c.args.changes.now c.loop-change.change-index c.loop-change.size _
    (omega (arith, c.loop-change-test.false, c.loop-change.auto.change-index-end)) c.loop-change.invariant
