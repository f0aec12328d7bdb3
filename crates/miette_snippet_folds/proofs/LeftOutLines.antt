-- Which lines labels hide, by a program's folds.
use Rattle.std.proofs.Common.{ℕ, ◌-◌, ◌≡◌, min, Bool, true, false, not, ◌&&◌, ◌||◌, List, [], ◌∷◌, length, map}
use Rattle.std.proofs.Common.{refl, sym, ap, ◌∙◌}
use Rattle.std.specs.List.{list_any}
use Rattle.miette_lines.specs.rules.Lines as P
use Rattle.miette_lines.specs.rules.Lines.{Line, line_of, line_start}
use Rattle.miette_lines.proofs.Places.{line_of_cut}
use Rattle.miette_snippet_rules.specs.rules.FoldedLabels.{line_index_of, is_around, is_hidden, is_in_fold}
use Rattle.miette_snippet_folds.specs.declared.folds.Fold.{Fold}
use Rattle.miette_snippet_folds.specs.declared.folds.LabelExtent.{LabelExtent as MadeExtent}
use Rattle.miette_snippet_folds.specs.views.ExtentIndex.{extent_view}
use Rattle.miette_snippet_folds.specs.views.Folding.{fold_in, is_around_fold}
use Rattle.miette_snippet_folds.specs.steps.Nearness.{is_near_fold}
use Rattle.miette_lines.proofs.Parts.{place_shifted}

-- ---- a label among lines

-- a line begins where a scan back from an offset, or from the end of the bytes, comes to
pub started : (start : ℕ) (bytes : List ℕ) (offset place lines at begin : ℕ) → place
    ≡ line_index_of (P.lines_from start bytes) offset → at ≡ min (length bytes) (offset - start) →
    begin ≡ line_start bytes (line_of bytes at - lines) → begin ≡ line_start bytes (place - lines)
started start bytes offset place lines at begin is cut found =
    found ∙ ap (λ n. line_start bytes (n - lines)) (line_of_cut bytes (offset - start) at cut
    ∙ sym (place_shifted start bytes offset) ∙ sym is)

-- ---- what is hidden

pub any_around : (start : ℕ) (bytes : List ℕ) (line : Line) (labels : List MadeExtent)
    → list_any (is_around_fold line) (map (fold_in start bytes) labels)
    ≡ list_any (is_around line) (map extent_view labels)
any_around start bytes line [] = refl
any_around start bytes line (label ∷ labels) = ap (λ r. is_around line (extent_view label) || r)
    (any_around start bytes line labels)

pub any_near : (limit place start : ℕ) (bytes : List ℕ) (line : Line) (labels : List MadeExtent) →
    list_any (is_near_fold limit place line) (map (fold_in start bytes) labels)
    ≡ list_any (is_in_fold limit (P.lines_from start bytes) place line) (map extent_view labels)
any_near limit place start bytes line [] = refl
any_near limit place start bytes line (label ∷ labels) =
    ap (λ r. is_in_fold limit (P.lines_from start bytes) place line (extent_view label) || r)
    (any_near limit place start bytes line labels)

and_none : (b : Bool) → false ≡ (b && not true)
and_none true = refl
and_none false = refl

and_all : (b : Bool) → b ≡ (b && not false)
and_all true = refl
and_all false = refl

-- a label is near, so the line isn't hidden
pub left_near : (limit place : ℕ) (line : Line) (folds : List Fold) → list_any (is_near_fold limit place line) folds
    ≡ true →
    (start : ℕ) (bytes : List ℕ) (labels : List MadeExtent) → folds ≡ map (fold_in start bytes) labels → false
    ≡ is_hidden limit (P.lines_from start bytes) (map extent_view labels) place line
left_near limit place line folds near start bytes labels e =
    let lines : List Line = P.lines_from start bytes in
    let is : list_any (is_in_fold limit lines place line) (map extent_view labels) ≡ true =
    sym (any_near limit place start bytes line labels) ∙ ap (list_any (is_near_fold limit place line)) (sym e) ∙ near
    in
    and_none (list_any (is_around line) (map extent_view labels))
    ∙ ap (λ b. list_any (is_around line) (map extent_view labels) && not b) (sym is)

-- none is near: it is hidden where it lies in a context
pub left_far : (limit place : ℕ) (line : Line) (folds : List Fold) (result : Bool)
    → list_any (is_near_fold limit place line) folds ≡ false → result ≡ list_any (is_around_fold line) folds →
    (start : ℕ) (bytes : List ℕ) (labels : List MadeExtent) → folds ≡ map (fold_in start bytes) labels → result
    ≡ is_hidden limit (P.lines_from start bytes) (map extent_view labels) place line
left_far limit place line folds result far around start bytes labels e =
    let lines : List Line = P.lines_from start bytes in
    let is : list_any (is_in_fold limit lines place line) (map extent_view labels) ≡ false =
    sym (any_near limit place start bytes line labels) ∙ ap (list_any (is_near_fold limit place line)) (sym e) ∙ far
    in
    around ∙ ap (list_any (is_around_fold line)) e ∙ any_around start bytes line labels
    ∙ and_all (list_any (is_around line) (map extent_view labels))
    ∙ ap (λ b. list_any (is_around line) (map extent_view labels) && not b) (sym is)
