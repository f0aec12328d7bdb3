use Rattle.miette_snippet_rules.specs.views.MadeUnderlines.{no_underline}
use Rattle.miette_snippet_frames.proofs.MarkRows.{mark_more}
use Rattle.miette_snippet_frames.proofs.underlines.push_underlines.Goals as goal
use Rattle.miette_snippet_frames.specs.views.LineContexts.{settings}

pub loop-mark-preserved : goal.loop-mark-preserved
loop-mark-preserved g c =
    mark_more (settings c.args.context.now)
    c.args.marks.now c.loop-mark.mark-index c.loop-mark.reached c.saturating_sub.result no_underline
    c.loop-mark.page c.push_blank.new.self c.push_underline.new.page _ c.loop-mark-test.true c.saturating_sub.ensures
    c.in_ok-push_blank.ensures c.in_ok-push_underline.ensures c.loop-mark.invariant
