use Rattle.miette_snippet_rules.specs.views.MadeUnderlines.{no_underline}
use Rattle.miette_fix_drawing.proofs.MarkRows.{sign_end, sign_more}
use Rattle.miette_fix_drawing.proofs.edit_underline_row.push_sign_runs.Goals as goal

pub loop-mark-preserved : goal.loop-mark-preserved
loop-mark-preserved g c = λ s.
    sign_more s c.args.sign c.args.marks.now c.loop-mark.mark-index c.loop-mark.reached c.saturating_sub.result
    c.saturating_sub-in-loop-mark.result no_underline c.loop-mark.page c.push_blank.new.self c.begin.new.self
    c.push_copies.new.self _
    c.loop-mark-test.true c.saturating_sub.ensures c.saturating_sub-in-loop-mark.ensures c.in_ok-push_blank.ensures
    c.in_ok-begin.ensures c.in_ok-push_copies.ensures (c.loop-mark.invariant s)

pub returns : goal.returns
returns g c = λ s.
    sign_end s c.args.sign c.args.marks.now c.loop-mark.mark-index c.loop-mark.reached c.loop-mark.page _
    c.loop-mark-test.false (c.loop-mark.invariant s)
