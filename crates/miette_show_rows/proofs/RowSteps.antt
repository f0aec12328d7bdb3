-- The rows of bytes, one after another.
use Rattle.std.proofs.Common.{◌≡◌, ℕ, ◌<◌, List, [], ◌∷◌, ◌++◌, Bool, true, false, length, Some}
use Rattle.std.proofs.Common.{refl, sym, ap, ◌∙◌, arith, append_assoc, append-nil, inl, inr}
use Rattle.std.specs.Prelude.{◌==◌, ◌||◌, if◌then◌else◌}
use Rattle.miette_show_rows.specs.rules.Rows.{has_end, last_row, rows_from, rows_of}
use Rattle.miette_show_rows.specs.views.Reading.{IsNextRow}

head_not : (a b : Bool) → (a || b) ≡ false → a ≡ false
head_not true b e = cc
head_not false b e = refl

rest_not : (a b : Bool) → (a || b) ≡ false → b ≡ false
rest_not true b e = cc
rest_not false b e = e

passed : (begun : List ℕ) (b : ℕ) (bs : List ℕ) → (b == 10) ≡ false
    → rows_from begun (b ∷ bs) ≡ rows_from (begun ++ b ∷ []) bs
passed begun b bs e =
    ap (λ t. if t then (begun ++ b ∷ []) ∷ rows_from [] bs else rows_from (begun ++ b ∷ []) bs) e

whole_row : (begun text rest : List ℕ) → has_end text ≡ false
    → rows_from begun (text ++ 10 ∷ rest) ≡ (begun ++ (text ++ 10 ∷ [])) ∷ rows_of rest
whole_row begun [] rest none = refl
whole_row begun (b ∷ bs) rest none =
    passed begun b (bs ++ 10 ∷ rest) (head_not (b == 10) (has_end bs) none)
    ∙ whole_row (begun ++ b ∷ []) bs rest (rest_not (b == 10) (has_end bs) none)
    ∙ ap (λ r. r ∷ rows_of rest) (append_assoc begun (b ∷ []) (bs ++ 10 ∷ []))

unended : (begun text : List ℕ) → has_end text ≡ false → rows_from begun text ≡ last_row (begun ++ text)
unended begun [] none = ap last_row (sym (append-nil begun))
unended begun (b ∷ bs) none =
    passed begun b bs (head_not (b == 10) (has_end bs) none)
    ∙ unended (begun ++ b ∷ []) bs (rest_not (b == 10) (has_end bs) none)
    ∙ ap last_row (append_assoc begun (b ∷ []) bs)

pub last_alone : (row : List ℕ) → 0 < length row → last_row row ≡ row ∷ []
last_alone [] h = absurd (omega (arith, h))
last_alone (b ∷ bs) h = refl

pub next_of : (ys zs row : List ℕ) → 0 < length row → IsNextRow (Some ys) (Some zs) row → rows_of ys ≡ row ∷ rows_of zs
next_of ys zs row some (is, inl (text, none, whole)) =
    ap rows_of (is ∙ ap (λ r. r ++ zs) whole ∙ append_assoc text (10 ∷ []) zs) ∙ whole_row [] text zs none
    ∙ ap (λ r. r ∷ rows_of zs) (sym whole)
next_of ys zs row some (is, inr (none, end)) =
    ap rows_of (is ∙ ap (λ r. row ++ r) end ∙ append-nil row) ∙ unended [] row none ∙ last_alone row some
    ∙ ap (λ r. row ∷ rows_of r) (sym end)

not_whole : (text : List ℕ) → [] ≡ text ++ 10 ∷ [] → ⊥
not_whole [] e = cc
not_whole (b ∷ bs) e = cc

pub none_next : (ys zs row : List ℕ) → row ≡ [] → IsNextRow (Some ys) (Some zs) row → ys ≡ []
none_next ys zs row none (is, inl (text, free, whole)) = absurd (not_whole text (sym none ∙ whole))
none_next ys zs row none (is, inr (free, end)) = is ∙ ap (λ r. r ++ zs) none ∙ end
