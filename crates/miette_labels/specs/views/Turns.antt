-- Labels in sorted order.
use Rattle.std.specs.Prelude.{List, map}
use Rattle.miette_protocol.specs.views.Meaning.{Label}
use Rattle.miette_labels.specs.declared.order.OrderedLabel.{OrderedLabel}
use Rattle.miette_labels.specs.views.ProgramLabels.{label_at}

-- the labels in the order of these indices
abbrev pub ordered_labels : List Label → List OrderedLabel → List Label
ordered_labels labels turns = map (λ turn. label_at labels turn.index) turns
