-- The state of a sweep over sorted labels, between two lines.
use Rattle.std.specs.Prelude.{ℕ, ◌<◌, ◌≤◌, ◌≡◌, List, length, take, Bool, nat_lt}
use Rattle.std.specs.Prelude.{slice_index_or}
use Rattle.std.specs.List.{filter}
use Rattle.miette_labels.specs.declared.placed.PlacedLabel.{PlacedLabel}
use Rattle.miette_lines.specs.rules.Lines.{Line}
use Rattle.miette_labels.specs.views.ProgramLabels.{no_label, drawn_of}
use Rattle.miette_labels.specs.rules.Labels.{reach, is_one_line, is_multi_line}

-- whether a label continues past an offset
abbrev pub passes : ℕ → PlacedLabel → Bool
passes place p = nat_lt place (reach (drawn_of p))

abbrev pub is_one : Line → PlacedLabel → Bool
is_one line p = is_one_line line (drawn_of p)

abbrev pub is_multi : Line → PlacedLabel → Bool
is_multi line p = is_multi_line line (drawn_of p)

-- the start of the k-th label
abbrev pub start_at : List PlacedLabel → ℕ → ℕ
start_at labels k = (slice_index_or labels k no_label).start

-- sorted labels, none of which ends before it starts
pub record AreSorted (labels : List PlacedLabel) : Type 0 where
  pub order : (j k : ℕ) → j ≤ k → k < length labels → start_at labels j ≤ start_at labels k
  pub drawn : (k : ℕ) → k < length labels → start_at labels k ≤ (slice_index_or labels k no_label).after

-- the first `next` labels began before an offset, no others did, and these of them continue past it
pub record IsAt (labels : List PlacedLabel) (place next : ℕ) (running : List PlacedLabel) : Type 0 where
  pub count : next ≤ length labels
  pub before : (k : ℕ) → k < next → start_at labels k < place
  pub later : (k : ℕ) → next ≤ k → k < length labels → place ≤ start_at labels k
  pub carried : running ≡ filter (passes place) (take next labels)

-- the first `next` labels begin before the line's end, no others do, and these multi-line labels are on it
pub record IsOn (labels : List PlacedLabel) (line : Line) (next : ℕ) (running : List PlacedLabel) : Type 0 where
  pub count : next ≤ length labels
  pub before : (k : ℕ) → k < next → start_at labels k < line.end
  pub later : (k : ℕ) → next ≤ k → k < length labels → line.end ≤ start_at labels k
  pub multi : running ≡ filter (is_multi line) labels
