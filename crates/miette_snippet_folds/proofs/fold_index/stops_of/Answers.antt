use Rattle.std.proofs.Common.{arith}
use Rattle.miette_snippet_folds.proofs.NearFolds.{stops_more, stops_none}
use Rattle.miette_snippet_folds.proofs.fold_index.stops_of.Goals as goal

pub loop-k-init : goal.loop-k-init
loop-k-init c = stops_none c.args.folds.now c.in_ok-made.made.items c.in_ok-made.ensures.items

pub loop-k-preserved : goal.loop-k-preserved
loop-k-preserved c = stops_more c.args.folds.now c.loop-k.made.items c.push.new.self.items c.loop-k.k c.loop-k.least
    c.nearest-stop.result _ c.loop-k-test.true c.in_ok-push.ensures.items c.nearest-stop.ensures c.loop-k.invariant
