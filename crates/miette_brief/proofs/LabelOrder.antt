-- Labels in the order in which they are told.
use Rattle.std.proofs.Common.{◌≡◌, ◌∙◌, List, ap}
use Rattle.miette_protocol.specs.views.Meaning.{Label}
use Rattle.miette_labels.specs.rules.Groups.{in_order}
use Rattle.miette_labels.specs.views.Turns.{ordered_labels}
use Rattle.miette_labels.specs.declared.order.OrderedLabel.{OrderedLabel}

-- the same turns as a slice
pub order_kept : (labels : List Label) (slice turns : List OrderedLabel) → slice ≡ turns → ordered_labels labels turns
    ≡ in_order labels
    → ordered_labels labels slice ≡ in_order labels
order_kept labels slice turns same is = ap (ordered_labels labels) same ∙ is
