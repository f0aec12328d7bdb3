-- Which hidden lines are left out: those beside another one.
use Rattle.std.proofs.Common.{ℕ, zero, suc, ◌+◌, ◌-◌, ◌≤◌, ◌≡◌, Bool, true, false, ◌&&◌, ◌||◌, List, [], ◌∷◌, length}
use Rattle.std.proofs.Common.{drop, Some, ⊎_elim, refl, sym, ap, ◌∙◌, arith}
use Rattle.std.proofs.lemmas.Bool.{and_left, cases_lt}
use Rattle.std.proofs.lemmas.List.{drop-drop, drop_all}
use Rattle.std.proofs.Math.Seq.{drop-nil}
use Rattle.miette_lines.specs.rules.Lines as P
use Rattle.miette_lines.specs.rules.Lines.{Line}
use Rattle.miette_snippet_rules.specs.rules.FoldedLabels.{LabelExtent, is_beside_hidden, is_hidden, leaves_out, line_at}
use Rattle.miette_snippet_rules.proofs.NeverHidden.{first_shown, no_line}

-- ---- lines by their numbers

-- what stands after the first `k` lines begins with the line of that number
pub at_drop : (k : ℕ) (ls rest : List Line) (l : Line) → drop k ls ≡ l ∷ rest → line_at ls k ≡ l
at_drop zero [] rest l e = let none : [] ≡ l ∷ rest = e in absurd (cc)
at_drop zero (x ∷ ls) rest l e = let whole : x ∷ ls ≡ l ∷ rest = e in let first : x ≡ l = cc in first
at_drop (suc k) [] rest l e = let none : [] ≡ l ∷ rest = sym (drop-nil (suc k)) ∙ e in absurd (cc)
at_drop (suc k) (x ∷ ls) rest l e = at_drop k ls rest l e

pub drop_next : (k : ℕ) (ls rest : List Line) (l : Line) → drop k ls ≡ l ∷ rest → drop (k + 1) ls ≡ rest
drop_next k ls rest l e = sym (drop-drop 1 k ls) ∙ ap (drop 1) e

pub at_end : (k : ℕ) (ls : List Line) → drop k ls ≡ [] → line_at ls k ≡ no_line
at_end k [] e = refl
at_end zero (x ∷ ls) e = let none : x ∷ ls ≡ [] = e in absurd (cc)
at_end (suc k) (x ∷ ls) e = at_end k ls e

-- ---- by the line before, and the one after

-- the line before is left out where it is hidden, since the line is
gap_is : (before far here gap : Bool) → gap ≡ (before && (far || here)) → here ≡ true → gap ≡ before
gap_is true true here gap e h = e
gap_is true false here gap e h = e ∙ h
gap_is false far here gap e h = e

pub gap_hidden : (limit : ℕ) (lines rest : List Line) (labels : List LabelExtent) (place : ℕ) (line : Line) (gap : Bool)
    → drop place lines ≡ line ∷ rest
    → gap ≡ leaves_out (Some limit) lines labels (place - 1) (line_at lines (place - 1))
    → is_hidden limit lines labels place line ≡ true
    → gap ≡ is_hidden limit lines labels (place - 1) (line_at lines (place - 1))
gap_hidden limit lines rest labels place line gap there is own =
    let far : Bool = is_hidden limit lines labels (place - 1 - 1) (line_at lines (place - 1 - 1)) in
    let before : Bool = is_hidden limit lines labels (place - 1) (line_at lines (place - 1)) in
    ⊎_elim {C = gap ≡ is_hidden limit lines labels (place - 1) (line_at lines (place - 1))}
    (λ some.
    let next : place - 1 + 1 ≡ place = omega (arith, some) in
    let here : is_hidden limit lines labels (place - 1 + 1) (line_at lines (place - 1 + 1)) ≡ true =
    ap (λ k. is_hidden limit lines labels k (line_at lines k)) next
    ∙ ap (is_hidden limit lines labels place) (at_drop place lines rest line there) ∙ own in
    gap_is before far (is_hidden limit lines labels (place - 1 + 1) (line_at lines (place - 1 + 1))) gap is here)
    (λ none.
    let first : place - 1 ≡ 0 = omega (arith, none) in
    let shown : before ≡ false = ap (λ k. is_hidden limit lines labels k (line_at lines k)) first
    ∙ first_shown limit lines (line_at lines 0) labels in
    is ∙ and_left before (is_beside_hidden limit lines labels (place - 1)) shown ∙ sym shown)
    (cases_lt 0 place)

-- a line after one that is left out, or before one that is hidden
pub beside_before : (limit : ℕ) (lines rest : List Line) (labels : List LabelExtent) (place : ℕ) (line : Line)
    (gap : Bool)
    → drop place lines ≡ line ∷ rest
    → gap ≡ leaves_out (Some limit) lines labels (place - 1) (line_at lines (place - 1))
    → is_hidden limit lines labels place line ≡ true → gap ≡ true
    → true ≡ is_beside_hidden limit lines labels place
beside_before limit lines rest labels place line gap there is own out =
    let before : is_hidden limit lines labels (place - 1) (line_at lines (place - 1)) ≡ true =
    sym (gap_hidden limit lines rest labels place line gap there is own) ∙ out in
    sym (ap (λ b. b || is_hidden limit lines labels (place + 1) (line_at lines (place + 1))) before)

pub beside_after : (limit : ℕ) (lines rest : List Line) (labels : List LabelExtent) (place : ℕ) (line : Line)
    (gap result : Bool) → drop place lines ≡ line ∷ rest
    → gap ≡ leaves_out (Some limit) lines labels (place - 1) (line_at lines (place - 1))
    → is_hidden limit lines labels place line ≡ true → gap ≡ false
    → result ≡ is_hidden limit lines labels (place + 1) (line_at lines (place + 1))
    → result ≡ is_beside_hidden limit lines labels place
beside_after limit lines rest labels place line gap result there is own out next =
    let before : is_hidden limit lines labels (place - 1) (line_at lines (place - 1)) ≡ false =
    sym (gap_hidden limit lines rest labels place line gap there is own) ∙ out in
    next ∙ sym (ap (λ b. b || is_hidden limit lines labels (place + 1) (line_at lines (place + 1))) before)

-- ---- the line after one, among those of some bytes

pub next_is : (start : ℕ) (bytes : List ℕ) (place : ℕ) (line next : Line) (more : List Line) → start ≤ line.end
    → drop place (P.lines_from start bytes) ≡ line ∷ P.lines_from line.end (drop (line.end - start) bytes)
    → P.lines_from (start + (line.end - start)) (drop (line.end - start) bytes) ≡ next ∷ more
    → line_at (P.lines_from start bytes) (place + 1) ≡ next
next_is start bytes place line next more low there parted =
    let ls : List Line = P.lines_from start bytes in
    let rest : List Line = P.lines_from line.end (drop (line.end - start) bytes) in
    let sums : line.end ≡ start + (line.end - start) = omega (arith, low) in
    at_drop (place + 1) ls more next (drop_next place ls rest line there
    ∙ ap (λ n. P.lines_from n (drop (line.end - start) bytes)) sums ∙ parted)

pub none_is : (start : ℕ) (bytes : List ℕ) (place : ℕ) (line : Line) → length bytes ≤ line.end - start
    → drop place (P.lines_from start bytes) ≡ line ∷ P.lines_from line.end (drop (line.end - start) bytes)
    → line_at (P.lines_from start bytes) (place + 1) ≡ no_line
none_is start bytes place line past there =
    let ls : List Line = P.lines_from start bytes in
    let rest : List Line = P.lines_from line.end (drop (line.end - start) bytes) in
    at_end (place + 1) ls (drop_next place ls rest line there
    ∙ ap (P.lines_from line.end) (drop_all (line.end - start) bytes past))
