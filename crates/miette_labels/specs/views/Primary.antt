-- The location of a snippet's frame, given the labels that were read.
use Rattle.std.specs.Prelude.{ℕ, ◌≡◌, List, [], ◌∷◌, Option, Some, None, Bool, true, false, ◌&&◌, if◌then◌else◌, nat_le}
use Rattle.std.specs.Prelude.{unwrap_or}
use Rattle.miette_protocol.specs.rules.Reading.{Span, Source, IsInBounds}
use Rattle.miette_labels.specs.declared.primary.Place.{Place}
use Rattle.miette_labels.specs.declared.primary.Place.TheVariants as places
use Rattle.miette_labels.specs.declared.reading.ReadLabel.{ReadLabel}
use Rattle.miette_labels.specs.rules.Contexts.{end_of_span, contents}

-- the end that must be within the group: the label's end, or its start if labels have their own context lines
abbrev pub end_within : Bool → Span → ℕ
end_within own span = if own then span.offset else end_of_span span

abbrev pub lies_within : Bool → Span → Span → Bool
lies_within own group span = nat_le group.offset span.offset && nat_le (end_within own span) (end_of_span group)

-- the first primary label of a group, or else the first label that was found
abbrev pub chosen_label : Bool → Span → Option Span → List ReadLabel → Option Span
chosen_label own group first [] = first
chosen_label own group first (read ∷ reads) =
    if lies_within own group read.span then (if read.primary then Some read.span
    else chosen_label own group (Some (unwrap_or first read.span)) reads)
    else chosen_label own group first reads

-- the place is where a read of this label without context begins; if there is a label, it isn't `Nowhere`
abbrev pub PointsTo : Source → Option Span → Place → Type 0
PointsTo source None place = place ≡ places.Nowhere
PointsTo source (Some span) places.Nowhere = ⊥
PointsTo source (Some span) (places.At line column) =
    (IsInBounds source.bytes span) × (line ≡ (contents 0 source span).line) × (column ≡ (contents 0 source span).column)
PointsTo source (Some span) places.Unread = IsInBounds source.bytes span → source.always_reads ≡ false

-- the line and column of a place, and whether it could not be read
abbrev pub begins_of : Place → Option (ℕ × ℕ)
begins_of places.Nowhere = None
begins_of (places.At line column) = Some (line, column)
begins_of places.Unread = None

abbrev pub is_unread : Place → Bool
is_unread places.Nowhere = false
is_unread (places.At line column) = false
is_unread places.Unread = true
