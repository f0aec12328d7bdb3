-- Rows that are added to a list, each once.
use Rattle.std.proofs.Common.{◌≡◌, ℕ, List, [], ◌∷◌, ◌++◌, Bool, true, false, refl, sym, subst, inl, inr}
use Rattle.std.specs.Prelude.{if◌then◌else◌, bytes_eq}
use Rattle.std.specs.List.{AllByRecursion, list_any}
use Rattle.std.proofs.lemmas.Slice.Eq.{bytes_eq-Decides}
use Rattle.miette_read.specs.rules.AnnotationLabels.{with_row, with_rows}
use Rattle.miette_read.proofs.Holding.{Has, Is, all_each, all_there, has_after, has_by, has_each, has_more}
use Rattle.miette_read.proofs.ReportsRead.{either}

pub row_stays : (P : List ℕ → Type 0) (rows : List (List ℕ)) (new : List ℕ) → Has P rows → Has P (with_row rows new)
row_stays P rows new h =
    either (Has P) (list_any (bytes_eq new) rows) rows (rows ++ new ∷ []) h (has_more P rows (new ∷ []) h)

row_by : (rows : List (List ℕ)) (new : List ℕ) (b : Bool) → list_any (bytes_eq new) rows ≡ b
    → Has (Is new) (if b then rows else rows ++ new ∷ [])
row_by rows new true e =
    has_each (λ r. bytes_eq new r ≡ true) (Is new) (λ r is. sym ((bytes_eq-Decides new r).0 is)) rows
    (has_by (bytes_eq new) rows e)
row_by rows new false e = has_after (Is new) rows (new ∷ []) (inl refl)

pub row_there : (rows : List (List ℕ)) (new : List ℕ) → Has (Is new) (with_row rows new)
row_there rows new = row_by rows new (list_any (bytes_eq new) rows) refl

pub rows_stay : (P : List ℕ → Type 0) (rows more : List (List ℕ)) → Has P rows → Has P (with_rows rows more)
rows_stay P rows [] h = h
rows_stay P rows (r ∷ rs) h = rows_stay P (with_row rows r) rs (row_stays P rows r h)

pub rows_there : (row : List ℕ) (rows more : List (List ℕ)) → Has (Is row) more → Has (Is row) (with_rows rows more)
rows_there row rows [] h = absurd h
rows_there row rows (r ∷ rs) (inl is) =
    rows_stay (Is row) (with_row rows r) rs (subst (λ (k : List ℕ). Has (Is k) (with_row rows r)) is (row_there rows r))
rows_there row rows (r ∷ rs) (inr h) = rows_there row (with_row rows r) rs h

-- all rows that are added are there
pub all_rows_there : (rows more : List (List ℕ)) → AllByRecursion (λ row. Has (Is row) (with_rows rows more)) more
all_rows_there rows more =
    all_each (λ row. Has (Is row) more) (λ row. Has (Is row) (with_rows rows more)) (λ row. rows_there row rows more)
    more (all_there more)
