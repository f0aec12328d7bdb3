use Rattle.std.proofs.Common.{◌≡◌, map, drop}
use Rattle.miette_labels.specs.views.ProgramLabels.{label_at}
use Rattle.miette_brief.specs.rules.Locations.{marked_in}
use Rattle.miette_brief.proofs.primary.marked_span.Given as goal

abbrev pub invariant-loop-turn : goal.invariant-loop-turn
invariant-loop-turn l = marked_in (map (λ turn. label_at l.labels turn.index) (drop l.turn-index l.order))
    ≡ marked_in (map (λ turn. label_at l.labels turn.index) l.order)
