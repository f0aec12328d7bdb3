-- Drawn labels, and how they relate to a line.
use Rattle.std.specs.Prelude.{ℕ, ◌+◌, ◌-◌, ◌%◌, min, max, List, [], ◌∷◌, length, slice_index_or, chars, Option}
use Rattle.std.specs.Prelude.{Some, None, Bool, not, ◌&&◌, ◌||◌, if◌then◌else◌, ◌==◌, nat_lt, nat_le}
use Rattle.std.specs.List.{filter, list_any}
use Rattle.miette_lines.specs.rules.Lines.{Line}
use Rattle.miette_protocol.specs.views.Meaning.{Label}
use Rattle.miette_style.specs.declared.style.Style.{Style}
use Rattle.miette_lines.specs.rules.Lists.{onto}
use Rattle.miette_style.specs.rules.Styles.{plain}
use Rattle.miette_labels.specs.rules.Around.{label_context}
use Rattle.miette_labels.specs.rules.Contexts.{end_of_span}

-- A drawn label: its start and drawn end, its style, the lines of its text (none without a text), and whether it is
-- drawn after the text of its line.
pub record DrawnLabel : Type 0 where
  pub start : ℕ
  pub after : ℕ
  pub style : Style
  pub parts : List (List ℕ)
  pub after_text : Bool

-- the characters of a text, split at each LF
abbrev pub cut_at_lf : List ℕ → List (List ℕ)
cut_at_lf [] = [] ∷ []
cut_at_lf (code ∷ text) = if code == 10 then [] ∷ cut_at_lf text else onto code (cut_at_lf text)

-- the lines of a label's text, given as bytes; none without a text
abbrev pub parts_of : Option (List ℕ) → List (List ℕ)
parts_of None = []
parts_of (Some text) = cut_at_lf (chars text)

-- the style of the i-th label; plain if there are no styles
abbrev pub style_at : List Style → ℕ → Style
style_at [] i = plain
style_at (style ∷ styles) i = slice_index_or (style ∷ styles) (i % length (style ∷ styles)) plain

-- whether a label begins at the end of a source of `n` bytes
abbrev pub is_at_end : ℕ → Label → Bool
is_at_end n label = label.span.offset == n

-- whether a label at the end of the source shows the last line: there is such a line, and a line of context
abbrev pub shows_end : ℕ → ℕ → Label → Bool
shows_end n lines label = nat_lt 0 n && (is_at_end n label && nat_lt 0 lines)

-- whether one of these labels does
abbrev pub some_shows_end : ℕ → ℕ → List Label → Bool
some_shows_end context n labels = list_any (λ label. shows_end n (label_context context labels label) label) labels

-- A label is drawn up to the end of the source. A label at the end of the source, if drawn, is an empty one at the last
-- byte of the last line, after that line's text.
abbrev pub drawn_label : Bool → List Style → ℕ → ℕ → Label → DrawnLabel
drawn_label ends styles n i label = record {
  start = if ends && is_at_end n label then n - 1 else label.span.offset;
  after = if ends && is_at_end n label then n - 1 else max label.span.offset (min (end_of_span label.span) n);
  style = style_at styles i;
  parts = parts_of label.text;
  after_text = ends && is_at_end n label;
}

abbrev pub drawn_from : Bool → List Style → ℕ → ℕ → List Label → List DrawnLabel
drawn_from ends styles n i [] = []
drawn_from ends styles n i (label ∷ labels) = drawn_label ends styles n i label
    ∷ drawn_from ends styles n (i + 1) labels

abbrev pub is_empty : DrawnLabel → Bool
is_empty label = label.start == label.after

-- an empty label counts as one byte long
abbrev pub reach : DrawnLabel → ℕ
reach label = if is_empty label then label.start + 1 else label.after

abbrev pub starts_on : Line → DrawnLabel → Bool
starts_on line label = nat_le line.start label.start && nat_lt label.start line.end

abbrev pub ends_on : Line → DrawnLabel → Bool
ends_on line label = nat_lt line.start (reach label) && nat_le (reach label) line.end

abbrev pub runs_through : Line → DrawnLabel → Bool
runs_through line label = nat_lt label.start line.start && nat_lt line.end (reach label)

abbrev pub lies_on : Line → DrawnLabel → Bool
lies_on line label = starts_on line label || ends_on line label || runs_through line label

abbrev pub is_one_line : Line → DrawnLabel → Bool
is_one_line line label = starts_on line label && ends_on line label

abbrev pub is_multi_line : Line → DrawnLabel → Bool
is_multi_line line label = lies_on line label && not (is_one_line line label)

abbrev pub one_line : Line → List DrawnLabel → List DrawnLabel
one_line line labels = filter (is_one_line line) labels

abbrev pub multi_line : Line → List DrawnLabel → List DrawnLabel
multi_line line labels = filter (is_multi_line line) labels

-- the labels whose texts are below a line: they end there and start on an earlier line
abbrev pub closing_labels : Line → List DrawnLabel → List DrawnLabel
closing_labels line labels = filter (λ label. ends_on line label && not (starts_on line label)) labels
