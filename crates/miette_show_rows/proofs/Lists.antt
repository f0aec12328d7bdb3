-- Lists, item by item.
use Rattle.std.proofs.Common.{◌≡◌, ℕ, zero, suc, ◌+◌, ◌<◌, ◌≤◌, List, [], ◌∷◌, ◌++◌, Option, Some, None, true, false}
use Rattle.std.proofs.Common.{Bor, Bool}
use Rattle.std.proofs.Common.{length, get_or, take, drop, map, refl, sym, ap, ◌∙◌, arith, append-nil}
use Rattle.std.specs.Prelude.{option_map, unwrap_or}
use Rattle.std.specs.List.{flat_map}
use Rattle.std.proofs.lemmas.List.{drop_all, map-append}
use Rattle.std.proofs.lemmas.List.Concat.{flat_map-append}
use Rattle.serde_json.specs.View.{view}
use Rattle.serde_json.specs.declared.value.Value.{Value}
use Rattle.miette_read.proofs.Steps.{next_taken}
use Rattle.miette_read.specs.views.Values.{values_behind}
use Rattle.miette_show_rows.specs.rules.CurrentSpans.{after_row, begin_with, row_text, rows_stand_in, stand_in}

next_left : {V : Type 0} (xs : List V) (i : ℕ) (x : V) → i < length xs → x ≡ get_or xs i x
    → drop i xs ≡ x ∷ drop (i + 1) xs
next_left [] i x h is = absurd (omega (arith, h))
next_left (y ∷ ys) zero x h is = ap (λ z. z ∷ ys) (sym is)
next_left (y ∷ ys) (suc i) x h is =
    let next : suc i + 1 ≡ suc (i + 1) = omega arith in
    next_left ys i x (omega (arith, h)) is ∙ ap (λ (n : ℕ). x ∷ drop n (y ∷ ys)) (sym next)

-- ---- rows that bytes begin with

module _ (rows : List (Bor Value)) (i : ℕ) (row : Bor Value) (rest : List ℕ) (h : i < length rows)
    (is : row ≡ get_or rows i row) where
  by_row : begin_with (values_behind (drop i rows)) rest
      ≡ unwrap_or (option_map (begin_with (values_behind (drop (i + 1) rows)))
      (after_row (row_text (view row.now)) rest)) false
  by_row = ap (λ ds. begin_with (values_behind ds) rest) (next_left rows i row h is)

  abbrev on : Option (List ℕ) → Bool
  on o = unwrap_or (option_map (begin_with (values_behind (drop (i + 1) rows))) o) false

  pub begins_on : (after : List ℕ) → Some after ≡ after_row (row_text (view row.now)) rest
      → begin_with (values_behind (drop (i + 1) rows)) after ≡ begin_with (values_behind (drop i rows)) rest
  begins_on after e = ap on e ∙ sym by_row

  pub begins_not : None ≡ after_row (row_text (view row.now)) rest → false
      ≡ begin_with (values_behind (drop i rows)) rest
  begins_not e = ap on e ∙ sym by_row

pub begins_all : (rows : List (Bor Value)) (i : ℕ) (rest : List ℕ) → length rows ≤ i
    → true ≡ begin_with (values_behind (drop i rows)) rest
begins_all rows i rest h = sym (ap (λ ds. begin_with (values_behind ds) rest) (drop_all i rows h))

-- ---- at least one row

module _ (bytes : List ℕ) (at column : ℕ) where
  pub no_rows : (rows : List (Bor Value)) → length rows ≡ 0 → false ≡ rows_stand_in bytes at column (values_behind rows)
  no_rows [] e = refl
  no_rows (x ∷ xs) e = absurd (omega (arith, e))

  pub some_rows : (rows : List (Bor Value)) (b : Bool) → 0 < length rows → b
      ≡ stand_in bytes at column (values_behind rows)
      → b ≡ rows_stand_in bytes at column (values_behind rows)
  some_rows [] b h e = absurd (omega (arith, h))
  some_rows (x ∷ xs) b h e = e

-- ---- one item more

module _ {V W : Type 0} (look : V → W) (xs : List V) (i : ℕ) (x : V) (h : i < length xs) (is : x ≡ get_or xs i x) where
  next_seen : map look (take (i + 1) xs) ≡ map look (take i xs) ++ look x ∷ []
  next_seen = ap (map look) (next_taken xs i x h is) ∙ map-append look (take i xs) (x ∷ [])

  pub next_mapped : {X : Type 0} (f : W → X)
      → map f (map look (take (i + 1) xs)) ≡ map f (map look (take i xs)) ++ f (look x) ∷ []
  next_mapped f = ap (map f) next_seen ∙ map-append f (map look (take i xs)) (look x ∷ [])

  pub next_flat : {X : Type 0} (f : W → List X)
      → flat_map f (map look (take (i + 1) xs)) ≡ flat_map f (map look (take i xs)) ++ f (look x)
  next_flat f =
      ap (flat_map f) next_seen ∙ flat_map-append f (map look (take i xs)) (look x ∷ [])
      ∙ ap (λ l. flat_map f (map look (take i xs)) ++ l) (append-nil (f (look x)))
