-- Folded labels.
use Rattle.std.specs.Prelude.{ℕ, ◌+◌, ◌-◌, ◌<◌, ◌≤◌, ◌≡◌, true, false, Bool, List, [], ◌∷◌}
use Rattle.std.specs.List.{AllByRecursion}
use Rattle.miette_lines.specs.rules.Lines.{Line, line_of}
use Rattle.miette_protocol.specs.views.Meaning.{Label}
use Rattle.miette_protocol.specs.rules.Reading.{Span}
use Rattle.miette_labels.specs.rules.Around.{label_context}
use Rattle.miette_labels.specs.rules.Labels.{DrawnLabel, starts_on, ends_on}
use Rattle.miette_snippet_rules.specs.rules.FoldedLabels.{last_byte}
use Rattle.miette_snippet_rules.specs.rules.Numbers.{last_of}
use Rattle.miette_snippet_rules.specs.rules.Snippets.{is_context_line, is_in_context}

-- the number of lines a label is drawn over
abbrev pub lines_drawn : List ℕ → Span → ℕ
lines_drawn bytes span = line_of bytes (last_byte bytes span) - line_of bytes span.offset + 1

abbrev pub FitsIn : ℕ → List ℕ → Label → Type 0
FitsIn limit bytes label = lines_drawn bytes label.span ≤ limit

-- the first and the last number pass a test
abbrev pub EndsPass : (ℕ → Bool) → List ℕ → Type 0
EndsPass kept [] = Unit {0}
EndsPass kept (k ∷ ks) = (kept k ≡ true) × (kept (last_of k ks) ≡ true)

-- a label neither begins nor ends on a line
abbrev pub IsInside : Line → DrawnLabel → Type 0
IsInside line label = (starts_on line label ≡ false) × (ends_on line label ≡ false)

-- A line in the context of a span is further from the span's first and last line than the lines shown around these.
abbrev pub IsFarInside : ℕ → List ℕ → ℕ → Span → Type 0
IsFarInside around bytes k span = is_in_context around bytes k span ≡ true →
    (line_of bytes span.offset + around < k) × (k + around < line_of bytes (last_byte bytes span))

-- If a line is in the context of a label, the label has more than `limit` lines, and the line is far inside.
abbrev pub IsFolded : ℕ → ℕ → List ℕ → ℕ → Span → Type 0
IsFolded limit around bytes k span = is_in_context around bytes k span ≡ true →
    (limit < lines_drawn bytes span)
    × (line_of bytes span.offset + around < k) × (k + around < line_of bytes (last_byte bytes span))

-- A line is in the context of some label, and folded in each label in whose context it is.
pub record IsFoldedInAll (limit context : ℕ) (bytes : List ℕ) (labels : List Label) (k : ℕ) : Type 0 where
  pub shown : is_context_line context bytes labels k ≡ true
  pub folded : AllByRecursion (λ label. IsFolded limit (label_context context labels label) bytes k label.span) labels
