use Rattle.miette_snippet_rules.specs.views.MadeUnderlines.{no_underline}
use Rattle.miette_snippet_rules.proofs.EndColumns.{ends_end, ends_more}
use Rattle.miette_snippet_rules.proofs.label_columns.push_underline_ends.Goals as goal

pub loop-mark-preserved : goal.loop-mark-preserved
loop-mark-preserved c =
    ends_more c.args.marks.now c.loop-mark.mark-index c.saturating_sub.result no_underline c.loop-mark.ends.items
    c.push.new.self.items c.push_pointer.new.ends.items c.push-in-loop-mark.new.self.items _
    c.loop-mark-test.true c.saturating_sub.ensures
    c.in_ok-push.ensures.items c.in_ok-push_pointer.ensures c.in_ok-push-2.ensures.items c.loop-mark.invariant

pub returns : goal.returns
returns c = ends_end c.args.marks.now c.loop-mark.mark-index c.loop-mark.ends.items _
    c.loop-mark-test.false c.loop-mark.invariant
