use Rattle.std.proofs.Common.{◌≡◌, ◌++◌, drop, map}
use Rattle.miette_labels.specs.views.Placing.{placement_of, placements_from}
use Rattle.miette_labels.proofs.drawn_labels.place_labels.Given as goal

abbrev pub invariant-loop-i : goal.invariant-loop-i
invariant-loop-i l = map placement_of l.placed.items ++ placements_from l.end l.styles l.i l.labels (drop l.i l.reads)
    ≡ placements_from l.end l.styles 0 l.labels l.reads
