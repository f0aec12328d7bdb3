-- Sorted labels, the first one that can't be read, and the groups in which labels are drawn.
use Rattle.std.specs.Prelude.{ℕ, ◌+◌, ◌-◌, max, List, [], ◌∷◌, map, codes, Option, Some, None, Bool, false, ◌&&◌, ◌||◌}
use Rattle.std.specs.Prelude.{if◌then◌else◌, nat_le, drop}
use Rattle.std.specs.List.{AllByRecursion}
use Rattle.miette_protocol.specs.views.Meaning.{Label}
use Rattle.miette_protocol.specs.rules.Reading.{Span, Source, IsInBounds, is_in_bounds}
use Rattle.miette_labels.specs.rules.Answers.{next_answer}
use Rattle.miette_labels.specs.rules.Around.{has_own_context, contents_around}
use Rattle.miette_labels.specs.rules.Contexts.{end_of_span, contents, lines_in}

-- inserts a label before the first one that doesn't begin before it
abbrev pub put_label : Label → List Label → List Label
put_label label [] = label ∷ []
put_label label (next ∷ labels) = if nat_le label.span.offset next.span.offset then label ∷ next ∷ labels
    else next ∷ put_label label labels

-- the spans of labels
abbrev pub spans_of : List Label → List Span
spans_of labels = map (λ label. label.span) labels

-- labels sorted by offset; equal offsets keep their order
abbrev pub in_order : List Label → List Label
in_order [] = []
in_order (label ∷ labels) = put_label label (in_order labels)

-- a label that can't be read, and the name of the reason
pub record Refusal : Type 0 where
  pub label : Label
  pub name : List ℕ

-- the first label whose read fails or whose span is out of bounds
abbrev pub first_refusal : List ℕ → List Bool → List Label → Option Refusal
first_refusal bytes fails [] = None
first_refusal bytes fails (label ∷ labels) =
    if next_answer fails then Some (record { label = label; name = codes "IoError" })
    else if is_in_bounds bytes label.span then first_refusal bytes (drop 1 fails) labels
    else Some (record { label = label; name = codes "OutOfBounds" })

-- the spans of all labels are in bounds
abbrev pub AreInBounds : List ℕ → List Label → Type 0
AreInBounds bytes labels = AllByRecursion (λ label. IsInBounds bytes label.span) labels

-- whether a label joins the previous group: its context begins at most one line after that group's data
abbrev pub joins_before : ℕ → Source → Span → Span → Bool
joins_before context source before label =
    nat_le (contents context source label).line
    ((contents context source before).line + (contents context source before).line_count)

-- from the first offset to the greater end
abbrev pub joined_span : Span → Span → Span
joined_span before label = record {
  offset = before.offset;
  len = max (end_of_span before) (end_of_span label) - before.offset;
}

-- A span that would join stays separate if the joined span can't be read.
abbrev pub groups_from : ℕ → Source → Span → List Bool → List Span → List Span
groups_from context source before fails [] = before ∷ []
groups_from context source before fails (span ∷ spans) =
    if joins_before context source before span then
    (if next_answer fails then before ∷ groups_from context source span (drop 1 fails) spans
    else groups_from context source (joined_span before span) (drop 1 fails) spans)
    else before ∷ groups_from context source span fails spans

-- the groups of sorted spans, each as the span that is read for it
abbrev pub groups_answered : ℕ → Source → List Bool → List Span → List Span
groups_answered context source fails [] = []
groups_answered context source fails (span ∷ spans) = groups_from context source span fails spans

-- ---- groups if a label has its own number of context lines

-- the span of the data that a label's read returns
abbrev pub label_data_span : ℕ → Source → List Label → Label → Span
label_data_span context source labels label = (contents_around context source labels label).span

-- inserts a span before the first one that doesn't begin before it
abbrev pub put_span : Span → List Span → List Span
put_span span [] = span ∷ []
put_span span (next ∷ spans) = if nat_le span.offset next.offset then span ∷ next ∷ spans
    else next ∷ put_span span spans

-- spans sorted by offset; equal offsets keep their order
abbrev pub by_begin : List Span → List Span
by_begin [] = []
by_begin (span ∷ spans) = put_span span (by_begin spans)

-- a span joins those before it if it begins at or before their end
abbrev pub merged_spans_from : Span → List Span → List Span
merged_spans_from before [] = before ∷ []
merged_spans_from before (span ∷ spans) =
    if nat_le span.offset (end_of_span before) then merged_spans_from (joined_span before span) spans
    else before ∷ merged_spans_from span spans

abbrev pub merged_data_spans : List Span → List Span
merged_data_spans [] = []
merged_data_spans (span ∷ spans) = merged_spans_from span spans

-- the groups of labels, each as the span of its bytes
abbrev pub own_groups : ℕ → Source → List Label → List Span
own_groups context source labels = merged_data_spans (by_begin (map (label_data_span context source labels) labels))

-- ---- the groups of sorted labels

abbrev pub groups_of : ℕ → Source → List Bool → List Label → List Span
groups_of context source fails labels =
    if has_own_context labels then own_groups context source labels else groups_answered context source fails
    (spans_of labels)

-- whether one of these reads fails
abbrev pub some_fails : List Bool → List Span → Bool
some_fails fails [] = false
some_fails fails (span ∷ spans) = next_answer fails || some_fails (drop 1 fails) spans

-- whether the read of a group fails; groups are read again if a label has its own number of context lines
abbrev pub groups_fail : ℕ → Source → List Bool → List Label → Bool
groups_fail context source fails labels = has_own_context labels && some_fails fails
    (groups_of context source fails labels)

-- the lines that groups show, read with `context` context lines
abbrev pub lines_of_groups : ℕ → Source → List Span → List (List ℕ)
lines_of_groups context source groups = map (λ group. lines_in source.bytes (contents context source group)) groups
