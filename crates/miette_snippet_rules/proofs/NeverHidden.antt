-- Lines that no folded label hides: the first one, and where there is none.
use Rattle.std.proofs.Common.{ℕ, ◌-◌, ◌≡◌, Bool, true, false, not, ◌&&◌, ◌||◌, ltb, leb, List, [], ◌∷◌, Option, Some}
use Rattle.std.proofs.Common.{None, refl, sym, ap, ap₂, ◌∙◌, arith}
use Rattle.std.specs.List.{list_any}
use Rattle.std.proofs.lemmas.Bool.{and_left, and_right, le-ltb, or_from}
use Rattle.miette_lines.specs.rules.Lines.{Line}
use Rattle.miette_snippet_rules.specs.rules.FoldedLabels.{LabelExtent, is_around, is_beside_hidden, is_hidden}
use Rattle.miette_snippet_rules.specs.rules.FoldedLabels.{is_in_fold, leaves_out}
use Rattle.miette_snippet_rules.specs.rules.FoldedLabels.{line_at, line_index_of}

-- the line that stands for one that isn't there
abbrev pub no_line : Line
no_line = record { start = 0; text_end = 0; end = 0 }

pub and_not : (b : Bool) → (b && not b) ≡ false
and_not true = refl
and_not false = refl

none_around : (labels : List LabelExtent) → list_any (is_around no_line) labels ≡ false
none_around [] = refl
none_around (label ∷ labels) =
    or_from (is_around no_line label) (list_any (is_around no_line) labels)
    (and_right (ltb 0 label.until) (ltb label.from 0) (le-ltb label.from 0 (omega arith))) (none_around labels)

-- where there is none
pub none_hidden : (limit : ℕ) (lines : List Line) (labels : List LabelExtent) (i : ℕ)
    → is_hidden limit lines labels i no_line ≡ false
none_hidden limit lines labels i =
    and_left (list_any (is_around no_line) labels) (not (list_any (is_in_fold limit lines i no_line) labels))
    (none_around labels)

shows : (a b : Bool) → (a && not (b && false)) ≡ a
shows true true = refl
shows true false = refl
shows false b = refl

first_near : (limit : ℕ) (lines : List Line) (line : Line) (label : LabelExtent)
    → is_in_fold limit lines 0 line label ≡ is_around line label
first_near limit lines line label =
    let first : ℕ = line_index_of lines label.first in
    let last : ℕ = line_index_of lines label.last in
    let none : 0 - first ≡ 0 = omega arith in
    let above : ltb label.around (0 - first) ≡ false =
    ap (ltb label.around) none ∙ le-ltb label.around 0 (omega arith) in
    ap (λ b. is_around line label && not (leb limit (last - first) && (b && ltb label.around (last - 0)))) above
    ∙ shows (is_around line label) (leb limit (last - first))

first_any : (limit : ℕ) (lines : List Line) (line : Line) (labels : List LabelExtent)
    → list_any (is_in_fold limit lines 0 line) labels ≡ list_any (is_around line) labels
first_any limit lines line [] = refl
first_any limit lines line (label ∷ labels) =
    ap₂ (λ a b. a || b) (first_near limit lines line label) (first_any limit lines line labels)

-- the first line
pub first_shown : (limit : ℕ) (lines : List Line) (line : Line) (labels : List LabelExtent)
    → is_hidden limit lines labels 0 line ≡ false
first_shown limit lines line labels =
    ap (λ b. list_any (is_around line) labels && not b) (first_any limit lines line labels)
    ∙ and_not (list_any (is_around line) labels)

-- before it stands none that is left out
pub none_before : (limit : Option ℕ) (lines : List Line) (labels : List LabelExtent)
    → false ≡ leaves_out limit lines labels (0 - 1) (line_at lines (0 - 1))
none_before None lines labels = refl
none_before (Some limit) lines labels =
    sym (and_left (is_hidden limit lines labels 0 (line_at lines 0)) (is_beside_hidden limit lines labels 0)
    (first_shown limit lines (line_at lines 0) labels))
