use Rattle.std.proofs.Common.{◌≡◌, drop, max}
use Rattle.miette_layout.specs.views.SourceEnds.{last_offset}
use Rattle.miette_layout.proofs.source_end.last_offset.Given as goal

abbrev pub invariant-loop-label : goal.invariant-loop-label
invariant-loop-label l = max l.last (last_offset (drop l.label-index l.labels)) ≡ last_offset l.labels
