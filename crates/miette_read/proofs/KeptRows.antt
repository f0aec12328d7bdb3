-- Rows of a text, and its parts.
use Rattle.std.proofs.Common.{ℕ, List, [], ◌∷◌, ◌++◌, refl, sym, ap, subst}
use Rattle.std.proofs.Common.{◌∙◌, inl, inr, append_assoc, append-nil}
use Rattle.std.specs.List.{fold}
use Rattle.miette_read.specs.rules.Kept.{IsPart}
use Rattle.miette_read.specs.rules.Places.{join_rows, row_after}
use Rattle.miette_read.specs.laws.Shown.{BeginsRow, IsRowIn, IsRowOf}
use Rattle.miette_read.proofs.Holding.{Has, Is}

-- ---- rows of a text

row_self : (row : List ℕ) → IsRowOf row row
row_self row = ([], [], sym (append-nil row), inl refl, inl refl)

begins_more : (rest more : List ℕ) → BeginsRow rest → BeginsRow (row_after rest more)
begins_more rest more (inl e) = inr (more, ap (λ t. t ++ 10 ∷ more) e)
begins_more rest more (inr h) = inr (row_after h.0 more, ap (λ t. t ++ 10 ∷ more) h.1)

row_before : (row text more : List ℕ) → IsRowOf row text → IsRowOf row (row_after text more)
row_before row text more h = (
  h.0,
  row_after h.1 more,
  ap (λ t. t ++ 10 ∷ more) h.2 ∙ append_assoc h.0 (row ++ h.1) (10 ∷ more)
      ∙ ap (λ t. h.0 ++ t) (append_assoc row h.1 (10 ∷ more)),
  h.3,
  begins_more h.1 more h.4,
)

row_next : (row text : List ℕ) → IsRowOf row (row_after text row)
row_next row text = (
  text ++ 10 ∷ [],
  [],
  sym (append_assoc text (10 ∷ []) row) ∙ ap (λ t. (text ++ 10 ∷ []) ++ t) (sym (append-nil row)),
  inr (text, refl),
  inl refl,
)

row_kept : (row text : List ℕ) (rows : List (List ℕ)) → IsRowOf row text → IsRowOf row (fold row_after text rows)
row_kept row text [] h = h
row_kept row text (r ∷ rs) h = row_kept row (row_after text r) rs (row_before row text r h)

row_among : (row text : List ℕ) (rows : List (List ℕ)) → Has (Is row) rows → IsRowOf row (fold row_after text rows)
row_among row text [] h = absurd h
row_among row text (r ∷ rs) (inl is) =
    row_kept row (row_after text r) rs
    (subst (λ (k : List ℕ). IsRowOf row (row_after text k)) (sym is) (row_next row text))
row_among row text (r ∷ rs) (inr h) = row_among row (row_after text r) rs h

pub row_joined : (row : List ℕ) (rows : List (List ℕ)) → Has (Is row) rows → IsRowIn row (join_rows rows)
row_joined row [] h = absurd h
row_joined row (r ∷ rs) (inl is) =
    row_kept row r rs (subst (λ (k : List ℕ). IsRowOf row k) (sym is) (row_self row))
row_joined row (r ∷ rs) (inr h) = row_among row r rs h

-- ---- parts of a text

pub part_self : (text : List ℕ) → IsPart text text
part_self text = ([], [], sym (append-nil text))

pub part_after : (text front : List ℕ) → IsPart text (front ++ text)
part_after text front = (front, [], ap (λ t. front ++ t) (sym (append-nil text)))

-- a part of a part
pub part_within : (text row whole : List ℕ) → IsPart text row → IsPart row whole → IsPart text whole
part_within text row whole h k = (
  k.0 ++ h.0,
  h.1 ++ k.1,
  k.2 ∙ ap (λ t. k.0 ++ (t ++ k.1)) h.2 ∙ ap (λ t. k.0 ++ t) (append_assoc h.0 (text ++ h.1) k.1)
      ∙ ap (λ t. k.0 ++ (h.0 ++ t)) (append_assoc text h.1 k.1) ∙ sym (append_assoc k.0 h.0 (text ++ (h.1 ++ k.1))),
)
