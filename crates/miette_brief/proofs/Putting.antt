-- Parts of rows, and rows, put one after the other.
use Rattle.std.proofs.Common.{ℕ, suc, ◌+◌, ◌≡◌, ◌<◌, List, [], ◌∷◌, ◌++◌, length, get_or, drop, add-one, refl, sym, ap}
use Rattle.std.proofs.Common.{◌∙◌, append_assoc}
use Rattle.std.proofs.Math.Seq.{drop-cons}
use Rattle.miette_brief.specs.rules.Rows.{ReportRow, row_text, brief_rows_text}

-- a row of a place, a kind, and a text
pub row_put : (out a b c new place kind text : List ℕ) → a ≡ out ++ place → b ≡ a ++ kind → c ≡ b ++ text → new ≡ c
    ++ 10 ∷ []
    → new ≡ out ++ ((place ++ (kind ++ text)) ++ 10 ∷ [])
row_put out a b c new place kind text e f g h =
    h ∙ ap (λ l. l ++ 10 ∷ []) (g ∙ ap (λ l. l ++ text) (f ∙ ap (λ l. l ++ kind) e)) ∙ simp append_assoc

-- the text of rows and of rows after them
pub rows_joined : (rows more : List ReportRow) → brief_rows_text (rows ++ more) ≡ brief_rows_text rows
    ++ brief_rows_text more
rows_joined [] more = refl
rows_joined (row ∷ rows) more =
    ap (λ x. row_text row ++ (10 ∷ x)) (rows_joined rows more)
    ∙ sym (append_assoc (row_text row) (10 ∷ brief_rows_text rows) (brief_rows_text more))

-- what is left of a list of rows grows shorter
pub rows_more : {X : Type 0} (f : X → List ReportRow) (rows : List X → List ReportRow) (xs : List X) (i : ℕ) (d x : X)
    (out new goal : List ℕ)
    → ((y : X) (more : List X) → rows (y ∷ more) ≡ f y ++ rows more) → i < length xs → x ≡ get_or xs i d → new ≡ out
    ++ brief_rows_text (f x)
    → out ++ brief_rows_text (rows (drop i xs)) ≡ goal → new ++ brief_rows_text (rows (drop (i + 1) xs)) ≡ goal
rows_more f rows xs i d x out new goal step lt is e h =
    let later = rows (drop (suc i) xs) in
    ap (λ k. new ++ brief_rows_text (rows (drop k xs))) (add-one i) ∙ ap (λ o. o ++ brief_rows_text later) e
    ∙ append_assoc out (brief_rows_text (f x)) (brief_rows_text later)
    ∙ ap (λ r. out ++ r) (sym (rows_joined (f x) later)) ∙ ap (λ r. out ++ brief_rows_text r)
    (sym (step x (drop (suc i) xs)))
    ∙ ap (λ ys. out ++ brief_rows_text (rows ys)) (sym (drop-cons xs i d lt ∙ ap (λ y. y ∷ drop (suc i) xs) (sym is)))
    ∙ h
