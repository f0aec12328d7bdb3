use Rattle.miette_labels.proofs.SortedLabels.{turns_more}
use Rattle.miette_labels.proofs.order.turns.Goals as goal

pub loop-index-preserved : goal.loop-index-preserved
loop-index-preserved c =
    turns_more c.args.labels.now c.loop-index.index c.offset-offset.result c.index-labels-index.result
    c.loop-index.turns.items c.push.new.self.items
    c.loop-index.invariant c.loop-index-test.true c.index-labels-index.is c.offset-offset.ensures
    c.in_ok-push.ensures.items
