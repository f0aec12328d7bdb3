use Rattle.std.proofs.Common.{arith}
use Rattle.std.proofs.lemmas.List.{at_drop_all}
use Rattle.miette_layout.specs.views.SourceEnds.{last_offset}
use Rattle.miette_layout.proofs.source_end.last_offset.Goals as goal

pub returns : goal.returns
returns c = omega (
  arith,
  c.loop-label.invariant,
  at_drop_all last_offset c.args.labels.now c.loop-label.label-index c.loop-label-test.false,
)
