use Rattle.std.proofs.Common.{refl}
use Rattle.miette_runs.specs.steps.Feeds.{capped_tag}
use Rattle.miette_runs.proofs.InterleavedCuts.{tag-changed}
use Rattle.miette_runs.proofs.runs.cut.cap.Goals as goal

pub loop-i-preserved : goal.loop-i-preserved
loop-i-preserved c = tag-changed (capped_tag c.args.at) c.args.tags.now c.loop-i.tags c.loop-i.i c.min-tag.result
    c.index-tags-i.result c.loop-i-test.true c.loop-i.invariant c.min-tag.ensures refl
