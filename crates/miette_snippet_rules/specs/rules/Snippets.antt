-- The shown lines of a source as a set, and the snippets as its maximal ranges. The order of labels doesn't matter
-- here.
use Rattle.std.specs.Prelude.{ℕ, ◌+◌, ◌-◌, List, [], ◌∷◌, length, Bool, not, ◌&&◌, ◌||◌, nat_le, Option, Some, None}
use Rattle.std.specs.List.{range_with_len, filter, list_any}
use Rattle.miette_lines.specs.rules.Lines.{lines_of, line_of}
use Rattle.miette_protocol.specs.views.Meaning.{Label}
use Rattle.miette_protocol.specs.rules.Reading.{Span}
use Rattle.miette_labels.specs.rules.Around.{label_context}
use Rattle.miette_snippet_rules.specs.rules.FoldedLabels.{last_byte, hides}
use Rattle.miette_snippet_rules.specs.rules.Numbers.{ranges}
use Rattle.miette_protocol.specs.rules.Context.{first_line, last_line}

-- whether line k is in the context of a span
abbrev pub is_in_context : ℕ → List ℕ → ℕ → Span → Bool
is_in_context context bytes k span = nat_le (first_line bytes span context) k && nat_le k (last_line bytes span context)

-- whether line k is in the context of some label, with the label's own number of context lines
abbrev pub is_context_line : ℕ → List ℕ → List Label → ℕ → Bool
is_context_line context bytes labels k = list_any (λ label.
    is_in_context (label_context context labels label) bytes k label.span) labels

-- whether line k is in the context of a label that is folded to `limit` lines
abbrev pub is_in_folded_context : ℕ → ℕ → List ℕ → ℕ → Span → Bool
is_in_folded_context limit context bytes k span = is_in_context context bytes k span
    && not (hides limit (line_of bytes span.offset) (line_of bytes (last_byte bytes span)) context k)

-- whether line k is in the context of some label once labels are folded to `limit` lines
abbrev pub is_in_some_fold : ℕ → ℕ → List ℕ → List Label → ℕ → Bool
is_in_some_fold limit context bytes labels k = list_any (λ label.
    is_in_folded_context limit (label_context context labels label) bytes k label.span) labels

-- whether line k is hidden: it is in the context of some label, but not once labels are folded
abbrev pub is_hidden : ℕ → ℕ → List ℕ → List Label → ℕ → Bool
is_hidden limit context bytes labels k =
    is_context_line context bytes labels k && not (is_in_some_fold limit context bytes labels k)

-- whether line k is hidden, but neither of its neighbours is (the first line never is)
abbrev pub is_alone : ℕ → ℕ → List ℕ → List Label → ℕ → Bool
is_alone limit context bytes labels k =
    is_hidden limit context bytes labels k
    && (not (is_hidden limit context bytes labels (k - 1)) && not (is_hidden limit context bytes labels (k + 1)))

-- whether line k is kept: it is in the context of some folded label, or it would be the only line left out
abbrev pub is_kept : Option ℕ → ℕ → List ℕ → List Label → ℕ → Bool
is_kept None context bytes labels k = is_context_line context bytes labels k
is_kept (Some limit) context bytes labels k =
    is_in_some_fold limit context bytes labels k || is_alone limit context bytes labels k

-- whether line k is left out inside folded labels
abbrev pub is_left_out : Option ℕ → ℕ → List ℕ → List Label → ℕ → Bool
is_left_out limit context bytes labels k =
    is_context_line context bytes labels k && not (is_kept limit context bytes labels k)

abbrev pub shown_numbers : ℕ → List ℕ → List Label → List ℕ
shown_numbers context bytes labels = filter (is_context_line context bytes labels)
    (range_with_len 0 (length (lines_of bytes)))

-- an empty source with a label has one snippet without lines
abbrev pub snippets : ℕ → List ℕ → List Label → List (List ℕ)
snippets context [] [] = []
snippets context [] (label ∷ labels) = [] ∷ []
snippets context (byte ∷ bytes) labels = ranges (shown_numbers context (byte ∷ bytes) labels)
