-- Folded labels: which lines inside them are left out.
use Rattle.std.specs.Prelude.{ℕ, zero, suc, ◌+◌, ◌-◌, min, max, List, [], ◌∷◌, map, length, count_by, Option, Some}
use Rattle.std.specs.Prelude.{None}
use Rattle.std.specs.Prelude.{Bool, false, not, ◌&&◌, ◌||◌, nat_lt, nat_le}
use Rattle.std.specs.List.{list_any}
use Rattle.miette_lines.specs.rules.Lines.{Line, is_terminated}
use Rattle.miette_protocol.specs.views.Meaning.{Label}
use Rattle.miette_protocol.specs.rules.Reading.{Span, Source}
use Rattle.miette_labels.specs.rules.Around.{label_context}
use Rattle.miette_labels.specs.rules.Contexts.{end_of_span}
use Rattle.miette_labels.specs.rules.Groups.{label_data_span}

-- the offset of the last byte that a label is drawn over; its own offset if it is empty
abbrev pub last_byte : List ℕ → Span → ℕ
last_byte bytes span = max span.offset (min (end_of_span span) (length bytes) - 1)

-- Whether a label that is folded to `limit` lines hides a line. It must span more than `limit` lines. The line must be
-- further from its first and its last line than the lines shown around these.
abbrev pub hides : ℕ → ℕ → ℕ → ℕ → ℕ → Bool
hides limit first last around line =
    nat_le limit (last - first) && (nat_lt around (line - first) && nat_lt around (last - line))

-- The extent of a label that may be folded: the offsets of its first and last byte, and those of its context, which has
-- at least one byte. `around` lines are shown around its ends.
pub record LabelExtent : Type 0 where
  pub first : ℕ
  pub last : ℕ
  pub from : ℕ
  pub until : ℕ
  pub around : ℕ

abbrev pub label_extent : ℕ → Source → List Label → Label → LabelExtent
label_extent context source labels label = record {
  first = label.span.offset;
  last = last_byte source.bytes label.span;
  from = (label_data_span context source labels label).offset;
  until = max (end_of_span (label_data_span context source labels label))
      ((label_data_span context source labels label).offset + 1);
  around = label_context context labels label;
}

-- the extents of a diagnostic's labels, or none if labels aren't folded
abbrev pub extents_of_labels : Option ℕ → ℕ → Source → List Label → List LabelExtent
extents_of_labels None context source labels = []
extents_of_labels (Some limit) context source labels = map (label_extent context source labels) labels

-- the zero-based index of the line an offset is on
abbrev pub line_index_of : List Line → ℕ → ℕ
line_index_of lines offset = count_by (λ line. is_terminated line && nat_le line.end offset) lines

-- whether a line has a byte of a label's context
abbrev pub is_around : Line → LabelExtent → Bool
is_around line label = nat_lt line.start label.until && nat_lt label.from line.end

-- whether line `i` is in the context of a label that is folded to `limit` lines
abbrev pub is_in_fold : ℕ → List Line → ℕ → Line → LabelExtent → Bool
is_in_fold limit lines i line label = is_around line label
    && not (hides limit (line_index_of lines label.first) (line_index_of lines label.last) label.around i)

-- line k, or an empty one if there is none
abbrev pub line_at : List Line → ℕ → Line
line_at [] k = record { start = 0; text_end = 0; end = 0 }
line_at (l ∷ ls) zero = l
line_at (l ∷ ls) (suc k) = line_at ls k

-- whether line `i` is hidden: it is in the context of some label, but not once labels are folded to `limit` lines
abbrev pub is_hidden : ℕ → List Line → List LabelExtent → ℕ → Line → Bool
is_hidden limit lines labels i line =
    list_any (is_around line) labels && not (list_any (is_in_fold limit lines i line) labels)

-- whether the line before or after line `i` is hidden (the first line never is)
abbrev pub is_beside_hidden : ℕ → List Line → List LabelExtent → ℕ → Bool
is_beside_hidden limit lines labels i =
    is_hidden limit lines labels (i - 1) (line_at lines (i - 1))
    || is_hidden limit lines labels (i + 1) (line_at lines (i + 1))

-- Whether line `i` of a snippet is left out: it is hidden, and so is an adjacent line. A single hidden line is shown,
-- since a row of dots takes as much room. `None` means that labels aren't folded.
abbrev pub leaves_out : Option ℕ → List Line → List LabelExtent → ℕ → Line → Bool
leaves_out None lines labels i line = false
leaves_out (Some limit) lines labels i line =
    is_hidden limit lines labels i line && is_beside_hidden limit lines labels i
