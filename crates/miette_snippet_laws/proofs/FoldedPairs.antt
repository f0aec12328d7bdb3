-- Two adjacent lines that are folded in all labels around them are left out.
use Rattle.std.proofs.Common.{ℕ, ◌+◌, ◌-◌, ◌<◌, ◌≤◌, ◌≡◌, Bool, true, false, ltb, leb, not, ◌&&◌, List, [], ◌∷◌, Some, refl}
use Rattle.std.proofs.Common.{ap, ◌∙◌, arith}
use Rattle.std.specs.List.{AllByRecursion, list_any}
use Rattle.std.proofs.lemmas.Bool.{and_from, le-leb, lt-ltb, or_from, or_left, or_right}
use Rattle.miette_lines.specs.rules.Lines.{line_of}
use Rattle.miette_lines.proofs.Cases.{by_cases}
use Rattle.miette_protocol.specs.views.Meaning.{Label}
use Rattle.miette_protocol.specs.rules.Reading.{Span}
use Rattle.miette_labels.specs.rules.Around.{label_context}
use Rattle.miette_snippet_rules.specs.rules.FoldedLabels.{hides, last_byte}
use Rattle.miette_snippet_rules.specs.rules.Snippets as N
use Rattle.miette_snippet_laws.specs.laws.Folding.{IsFolded, IsFoldedInAll, lines_drawn}
use Rattle.miette_snippet_laws.proofs.LeftOutPairs.{left_beside}

hides_far : (limit first last around k : ℕ) → limit < last - first + 1 → first + around < k → k + around < last
    → hides limit first last around k ≡ true
hides_far limit first last around k many after before =
    and_from (leb limit (last - first)) (ltb around (k - first) && ltb around (last - k))
    (le-leb limit (last - first) (omega arith))
    (and_from (ltb around (k - first)) (ltb around (last - k)) (lt-ltb around (k - first) (omega arith))
    (lt-ltb around (last - k) (omega arith)))

off_where : (b h : Bool) → (b ≡ true → h ≡ true) → (b && not h) ≡ false
off_where true h hidden = ap not (hidden refl)
off_where false h hidden = refl

folded_off : (limit around : ℕ) (bytes : List ℕ) (span : Span) (k : ℕ) → IsFolded limit around bytes k span
    → N.is_in_folded_context limit around bytes k span ≡ false
folded_off limit around bytes span k folded =
    let first : ℕ = line_of bytes span.offset in
    let last : ℕ = line_of bytes (last_byte bytes span) in
    off_where (N.is_in_context around bytes k span) (hides limit first last around k)
    (λ t. let far = folded t in hides_far limit first last around k far.0 far.1 far.2)

none_keeps : (limit context : ℕ) (bytes : List ℕ) (all labels : List Label) (k : ℕ)
    → AllByRecursion (λ label. IsFolded limit (label_context context all label) bytes k label.span) labels
    → list_any (λ label. N.is_in_folded_context limit (label_context context all label) bytes k label.span) labels
    ≡ false
none_keeps limit context bytes all [] k folded = refl
none_keeps limit context bytes all (label ∷ labels) k folded =
    or_from (N.is_in_folded_context limit (label_context context all label) bytes k label.span)
    (list_any (λ l. N.is_in_folded_context limit (label_context context all l) bytes k l.span) labels)
    (folded_off limit (label_context context all label) bytes label.span k folded.0)
    (none_keeps limit context bytes all labels k folded.1)

hidden_when : (limit context : ℕ) (bytes : List ℕ) (labels : List Label) (k : ℕ)
    → IsFoldedInAll limit context bytes labels k → N.is_hidden limit context bytes labels k ≡ true
hidden_when limit context bytes labels k folded =
    and_from (N.is_context_line context bytes labels k) (not (N.is_in_some_fold limit context bytes labels k))
    folded.shown (ap not (none_keeps limit context bytes labels labels k folded.folded))

pub folds_pair : (limit context : ℕ) (bytes : List ℕ) (labels : List Label) (k : ℕ)
    → IsFoldedInAll limit context bytes labels k → IsFoldedInAll limit context bytes labels (k + 1)
    → (N.is_left_out (Some limit) context bytes labels k ≡ true)
    × (N.is_left_out (Some limit) context bytes labels (k + 1) ≡ true)
folds_pair limit context bytes labels k one two =
    let hidden : ℕ → Bool = N.is_hidden limit context bytes labels in
    let h : hidden k ≡ true = hidden_when limit context bytes labels k one in
    let g : hidden (k + 1) ≡ true = hidden_when limit context bytes labels (k + 1) two in
    let back : k + 1 - 1 ≡ k = omega arith in (
      left_beside limit context bytes labels k h (or_right (hidden (k - 1)) (hidden (k + 1)) g),
      left_beside limit context bytes labels (k + 1) g
          (or_left (hidden (k + 1 - 1)) (hidden (k + 1 + 1)) (ap hidden back ∙ h)),
    )
