-- How many multi-line labels are on a line.
use Rattle.std.specs.Prelude.{ℕ, max, List, [], ◌∷◌, length}
use Rattle.std.specs.List.{filter}
use Rattle.miette_lines.specs.rules.Lines.{Line}
use Rattle.miette_labels.specs.declared.placed.PlacedLabel.{PlacedLabel}
use Rattle.miette_labels.specs.views.Sweeping.{is_multi}

-- the greatest number of multi-line labels on one of the lines
abbrev pub most_multi : List PlacedLabel → List Line → ℕ
most_multi labels [] = 0
most_multi labels (line ∷ lines) = max (length (filter (is_multi line) labels)) (most_multi labels lines)
