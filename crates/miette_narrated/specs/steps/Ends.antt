-- Labels sorted by where they end, and those described below a line that isn't a snippet's last.
use Rattle.std.specs.Prelude.{ℕ, ◌+◌, ◌≡◌, ◌==◌, map, List, [], ◌∷◌, Bool, ◌&&◌, nat_le, nat_lt}
use Rattle.std.specs.List.{filter}
use Rattle.std.specs.List.Sorted.{IsNonDecreasingBy}
use Rattle.miette_lines.specs.rules.Lines.{Line}
use Rattle.miette_labels.specs.declared.placed.PlacedLabel.{PlacedLabel}
use Rattle.miette_narrated.specs.declared.label_order.LabelOrder.{LabelOrder}
use Rattle.miette_narrated.specs.declared.label_order.RankedLabel.{RankedLabel}
use Rattle.miette_narrated.specs.steps.LabelSweep.{AreOrdered}

-- whether a label ends within a line's text
abbrev pub ends_within : Line → PlacedLabel → Bool
ends_within line p = nat_le line.start p.after && nat_le p.after line.text_end

-- whether a label begins before the line and ends within its text
abbrev pub is_ended : Line → PlacedLabel → Bool
is_ended line p = nat_lt p.start line.start && ends_within line p

-- whether a label begins within the line's text
abbrev pub is_begun : Line → PlacedLabel → Bool
is_begun line p = nat_le line.start p.start && nat_le p.start line.text_end

-- labels with their ranks, counted from this number on
abbrev pub ranked_labels : ℕ → List PlacedLabel → List RankedLabel
ranked_labels rank [] = []
ranked_labels rank (p ∷ ps) = record { rank = rank; label = p } ∷ ranked_labels (rank + 1) ps

abbrev pub without_ranks : List RankedLabel → List PlacedLabel
without_ranks ends = map (λ end. end.label) ends

-- the same labels, sorted by where they end
pub record AreEnds (labels : List PlacedLabel) (ends : List RankedLabel) : Type 0 where
  pub rising : IsNonDecreasingBy (λ end. end.label.after) ends
  pub same : (rank : ℕ) → filter (λ end. end.rank == rank) ends
      ≡ filter (λ end. end.rank == rank) (ranked_labels 0 labels)

-- the labels sorted by offset, and the same ones sorted by where they end
pub record IsOrder (order : LabelOrder) : Type 0 where
  pub ordered : AreOrdered order.placed.now
  pub ended : AreEnds order.placed.now order.ends.now
