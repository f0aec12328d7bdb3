-- Marks are apart, and each anchor lies in its own mark alone.
use Rattle.std.proofs.Common.{ℕ, ◌+◌, ◌/◌, ◌<◌, ◌≤◌, ◌≡◌, true, false, ltb, leb, List, [], ◌∷◌, refl, ◌∙◌, ◌&&◌, arith}
use Rattle.std.proofs.lemmas.Bool.{lt-ltb, le-ltb, le-leb, lt-leb, and_right}
use Rattle.std.specs.List.{AllByRecursion}
use Rattle.miette_labels.specs.rules.Labels.{DrawnLabel, is_empty}
use Rattle.miette_snippet_rules.specs.rules.Underlines.{MeasuredText, Underline, underline_from, underline_until}
use Rattle.miette_snippet_rules.specs.rules.Underlines.{underlines_from, marks, AreApart}
use Rattle.miette_snippet_rules.specs.rules.Underlines.{underlines_at}
use Rattle.miette_lines.proofs.Cases.{by_cases}

longer : (text : MeasuredText) (reached : ℕ) (label : DrawnLabel) → underline_from text reached label
    < underline_until text reached label
longer text reached label =
    by_cases {C = underline_from text reached label < underline_until text reached label} (is_empty label)
    (λ t. rw t (omega arith)) (λ f. rw f (omega arith))

middle : (from until : ℕ) → from < until → (from ≤ (from + until) / 2) × ((from + until) / 2 < until)
middle from until h = (omega (arith, h), omega (arith, h))

pub apart_from : (text : MeasuredText) (reached : ℕ) (labels : List DrawnLabel)
    → AreApart reached (underlines_from text reached labels)
apart_from text reached [] = tt
apart_from text reached (label ∷ labels) = (
  omega arith,
  middle (underline_from text reached label) (underline_until text reached label) (longer text reached label),
  apart_from text (underline_until text reached label) labels,
)

-- no mark has a column before the first of them
none-before : (reached column : ℕ) (ms : List Underline) → AreApart reached ms → column < reached
    → underlines_at column ms ≡ []
none-before reached column [] h lt = refl
none-before reached column (m ∷ ms) h lt =
    let no : leb m.from column ≡ false = lt-leb m.from column (omega (arith, h.0)) in
    rw no (none-before m.until column ms h.2 (omega (arith, h.0, h.1.0, h.1.1)))

-- f finds the marks of a column among more, of which none reaches as far as these
own_from : (f : ℕ → List Underline) (reached : ℕ) (ms : List Underline) → AreApart reached ms
    → ((column : ℕ) → reached ≤ column → f column ≡ underlines_at column ms)
    → AllByRecursion (λ mark. f mark.pointer ≡ mark ∷ []) ms
own_from f reached [] h same = tt
own_from f reached (m ∷ ms) h same =
    let a : leb m.from m.pointer ≡ true = le-leb m.from m.pointer h.1.0 in
    let b : ltb m.pointer m.until ≡ true = lt-ltb m.pointer m.until h.1.1 in
    let here : underlines_at m.pointer (m ∷ ms) ≡ m ∷ [] = rw (a, b, none-before m.until m.pointer ms h.2 h.1.1) refl in (
      same m.pointer (omega (arith, h.0, h.1.0)) ∙ here,
      own_from f m.until ms h.2 (λ column le.
          let no : (leb m.from column && ltb column m.until) ≡ false =
          and_right (leb m.from column) (ltb column m.until) (le-ltb column m.until le) in
          same column (omega (arith, h.0, h.1.0, h.1.1)) ∙ rw no refl),
    )

pub marks_apart : (text : MeasuredText) (labels : List DrawnLabel) → AreApart 0 (marks text labels)
marks_apart text labels = apart_from text 0 labels

pub own_anchors : (ms : List Underline) → AreApart 0 ms → AllByRecursion (λ mark. underlines_at mark.pointer ms ≡ mark
    ∷ []) ms
own_anchors ms apart = own_from (λ column. underlines_at column ms) 0 ms apart (λ column le. refl)

pub own_anchor : (text : MeasuredText) (labels : List DrawnLabel)
    → AllByRecursion (λ mark. underlines_at mark.pointer (marks text labels) ≡ mark ∷ []) (marks text labels)
own_anchor text labels = own_anchors (marks text labels) (marks_apart text labels)
