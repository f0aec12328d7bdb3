use Rattle.std.proofs.Common.{arith}
use Rattle.miette_snippet_folds.proofs.AroundLines.{froms_more, froms_none}
use Rattle.miette_snippet_folds.proofs.extent_index.froms_of.Goals as goal

pub loop-k-init : goal.loop-k-init
loop-k-init c = froms_none c.args.labels.now c.in_ok-made.made.items _ c.in_ok-made.ensures.items

pub loop-k-preserved : goal.loop-k-preserved
loop-k-preserved c = froms_more c.args.labels.now c.loop-k.made.items c.push.new.self.items
    c.loop-k.k c.loop-k.least c.min-least.result _ c.loop-k-test.true c.in_ok-push.ensures.items
    c.min-least.ensures c.loop-k.invariant

pub returns-clause-from : goal.returns-clause-from
returns-clause-from c = λ j k d lt ge inside.
    c.loop-k.invariant.from j k d (omega (arith, lt, c.loop-k-test.false)) ge inside
