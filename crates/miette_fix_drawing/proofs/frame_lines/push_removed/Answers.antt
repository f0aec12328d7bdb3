use Rattle.std.proofs.Common.{◌+◌, ◌∙◌, ap, ap₂}
use Rattle.miette_fix_rows.specs.rules.DiffFrames.{removed_with}
use Rattle.miette_fix_drawing.proofs.Framing.{removed_more, texts_size}
use Rattle.miette_fix_drawing.proofs.frame_lines.push_removed.Goals as goal

pub loop-change-preserved : goal.loop-change-preserved
loop-change-preserved c =
    let away = c.loop-change.away in
    removed_more c.loop-change.list.items c.push.new.self.items _ c.args.changes.now c.loop-change.change-index
    c.change-item.result away c.in_ok-away.away _ c.loop-change-test.true c.change-item.is
    c.in_ok-push.ensures.items
    (ap₂ (λ ls os. removed_with away ls os) c.removed.ensures.lines c.added-others.ensures)
    (c.in_ok-away.ensures ∙ ap (λ n. away + n) (texts_size c.added-others.result.now _ c.added-others.ensures))
    c.loop-change.invariant
