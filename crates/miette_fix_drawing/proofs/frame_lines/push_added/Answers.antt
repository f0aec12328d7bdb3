use Rattle.std.proofs.Common.{◌-◌, ◌++◌, ◌∙◌, ap, ap₂}
use Rattle.miette_fix_rows.specs.rules.DiffFrames.{added_from, added_with}
use Rattle.miette_fix_drawing.specs.views.ShownLines.{lines_of_segments}
use Rattle.miette_fix_drawing.proofs.Framing.{added_more, texts_size}
use Rattle.miette_fix_drawing.proofs.frame_lines.push_added.Goals as goal

pub loop-change-init : goal.loop-change-init
loop-change-init c =
    ap (λ n. lines_of_segments c.args.list.now.items ++ added_from n c.args.changes.now) c.in_ok-away.ensures

pub loop-change-preserved : goal.loop-change-preserved
loop-change-preserved c =
    let away = c.loop-change.away in
    added_more c.loop-change.list.items c.push.new.self.items _ c.args.changes.now c.loop-change.change-index
    c.change-item.result away c.saturating_sub-away.result _ c.loop-change-test.true c.change-item.is
    c.in_ok-push.ensures.items
    (ap₂ (λ ls os. added_with away ls os) c.added.ensures c.removed-others.ensures.lines)
    (c.saturating_sub-away.ensures
    ∙ ap (λ n. away - n) (texts_size c.removed-others.result.now _ c.removed-others.ensures.lines))
    c.loop-change.invariant
