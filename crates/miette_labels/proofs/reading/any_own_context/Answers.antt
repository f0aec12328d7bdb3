use Rattle.miette_labels.proofs.GroupsOfReads.{own_nowhere}
use Rattle.miette_labels.proofs.reading.any_own_context.Goals as goal

pub returns : goal.returns
returns c = own_nowhere c.args.labels.now c.loop-label.label-index c.loop-label-test.false c.loop-label.invariant
