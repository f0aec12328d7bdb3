-- Parts of rows, put one after the other.
use Rattle.std.proofs.Common.{ℕ, suc, ◌+◌, ◌≡◌, ◌<◌, List, [], ◌∷◌, ◌++◌, length, get_or, drop, add-one, sym, ap, ◌∙◌}
use Rattle.std.proofs.Common.{append_assoc}
use Rattle.std.proofs.Math.Seq.{drop-cons}
use Rattle.miette_narrated.specs.rules.Labels.{row}

pub then : (old q r a b : List ℕ) → q ≡ old ++ a → r ≡ q ++ b → r ≡ old ++ (a ++ b)
then old q r a b e f = f ∙ ap (λ x. x ++ b) e ∙ append_assoc old a b

pub three : (old q r s a b c : List ℕ) → q ≡ old ++ a → r ≡ q ++ b → s ≡ r ++ c → s ≡ old ++ (a ++ (b ++ c))
three old q r s a b c e f g = g ∙ ap (λ x. x ++ c) (f ∙ ap (λ x. x ++ b) e) ∙ simp append_assoc

-- a row of words and a text
pub row_put : (old q r s a t : List ℕ) → q ≡ old ++ a → r ≡ q ++ t → s ≡ r ++ 10 ∷ [] → s ≡ old ++ row (a ++ t)
row_put old q r s a t e f g = three old q r s a t (10 ∷ []) e f g
    ∙ ap (λ x. old ++ x) (sym (append_assoc a t (10 ∷ [])))

-- words and a number, columns, and a text
pub label_put : (old q r s a n c t : List ℕ) → q ≡ old ++ (a ++ n) → r ≡ q ++ c → s ≡ r ++ row t → s ≡ old
    ++ row (a ++ (n ++ (c ++ t)))
label_put old q r s a n c t e f g = g ∙ ap (λ x. x ++ row t) (f ∙ ap (λ x. x ++ c) e) ∙ simp append_assoc

-- the same with words before the column
pub label_put_at : (old q r s a n b d t : List ℕ) → q ≡ old ++ (a ++ n) → r ≡ q ++ (b ++ d) → s ≡ r ++ row t → s ≡ old
    ++ row (a ++ (n ++ (b ++ (d ++ t))))
label_put_at old q r s a n b d t e f g = g ∙ ap (λ x. x ++ row t) (f ∙ ap (λ x. x ++ (b ++ d)) e) ∙ simp append_assoc

-- a line's row
pub line_put : (old q r s u a n b t : List ℕ) → q ≡ old ++ (a ++ n) → r ≡ q ++ b → s ≡ r ++ t → u ≡ s ++ 10 ∷ [] → u
    ≡ old ++ row (a ++ (n ++ (b ++ t)))
line_put old q r s u a n b t e f g h = h ∙ ap (λ x. x ++ 10 ∷ []) (g ∙ ap (λ x. x ++ t) (f ∙ ap (λ x. x ++ b) e))
    ∙ simp append_assoc

-- the rows with which a snippet begins
pub begin_put : (old q r s u v a n b l c d : List ℕ) → q ≡ old ++ a → r ≡ q ++ n → s ≡ r ++ (b ++ l) → u ≡ s ++ (c ++ d)
    → v ≡ u ++ 10 ∷ 10 ∷ [] → v ≡ old ++ (row (a ++ (n ++ (b ++ (l ++ (c ++ d))))) ++ row [])
begin_put old q r s u v a n b l c d e f g h i =
    i ∙ ap (λ x. x ++ 10 ∷ 10 ∷ []) (h ∙ ap (λ x. x ++ (c ++ d)) (g ∙ ap (λ x. x ++ (b ++ l)) (f ∙ ap (λ x. x ++ n) e)))
    ∙ simp append_assoc

-- what is left of a list of rows grows shorter
pub rows_more : {X : Type 0} (f : X → List ℕ) (rows : List X → List ℕ) (xs : List X) (i : ℕ) (d : X)
    (out new goal : List ℕ) → ((x : X) (more : List X) → rows (x ∷ more) ≡ f x ++ rows more) → i < length xs →
    d ≡ get_or xs i d → new ≡ out ++ f d → out ++ rows (drop i xs) ≡ goal → new ++ rows (drop (i + 1) xs) ≡ goal
rows_more f rows xs i d out new goal step lt is e h =
    ap (λ k. new ++ rows (drop k xs)) (add-one i) ∙ ap (λ o. o ++ rows (drop (suc i) xs)) e
    ∙ append_assoc out (f d) (rows (drop (suc i) xs))
    ∙ ap (λ r. out ++ r) (sym (step d (drop (suc i) xs)))
    ∙ ap (λ ys. out ++ rows ys) (sym (drop-cons xs i d lt ∙ ap (λ x. x ∷ drop (suc i) xs) (sym is))) ∙ h
