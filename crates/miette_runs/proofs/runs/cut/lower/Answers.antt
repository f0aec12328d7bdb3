use Rattle.std.proofs.Common.{refl}
use Rattle.miette_runs.specs.steps.Feeds.{lowered_tag}
use Rattle.miette_runs.proofs.InterleavedCuts.{tag-changed}
use Rattle.miette_runs.proofs.runs.cut.lower.Goals as goal

pub loop-i-preserved : goal.loop-i-preserved
loop-i-preserved c = tag-changed (lowered_tag c.args.by) c.args.tags.now c.loop-i.tags c.loop-i.i
    c.saturating_sub-tag.result
    c.index-tags-i.result c.loop-i-test.true c.loop-i.invariant c.saturating_sub-tag.ensures refl
