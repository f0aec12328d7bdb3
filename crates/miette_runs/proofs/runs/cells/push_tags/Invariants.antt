use Rattle.std.proofs.Common.{◌≡◌, ◌++◌, drop}
use Rattle.miette_runs.specs.views.Interleaving.{tags_spelled}
use Rattle.miette_runs.proofs.runs.cells.push_tags.Given as goal

abbrev pub invariant-loop-tag : goal.invariant-loop-tag
invariant-loop-tag g l = g.S.Canvas.written l.out ++ tags_spelled (drop l.tag-index l.tags)
    ≡ g.S.Canvas.written l.fn.out ++ tags_spelled l.tags
