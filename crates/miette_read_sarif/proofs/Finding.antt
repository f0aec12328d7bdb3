-- The first of items that passes a test, and the item of an index, by what is seen of them.
use Rattle.std.proofs.Common.{◌≡◌, ℕ, zero, suc, ◌+◌, ◌<◌, ◌≤◌, List, [], ◌∷◌, Bool, true, false, length}
use Rattle.std.proofs.Common.{get_or, take, map, Option, Some, None, slice_get, arith, refl, sym, ap, ◌∙◌}
use Rattle.std.specs.Prelude.{find, if◌then◌else◌}
use Rattle.std.specs.Option.{option_or}
use Rattle.std.proofs.lemmas.List.{map-append}
use Rattle.std.proofs.lemmas.List.Folds.{find-append}
use Rattle.miette_read.proofs.Steps.{next_taken}

pub item_there : {V W : Type 0} (look : V → W) (xs : List V) (i : ℕ) (x : V) → i < length xs → x ≡ get_or xs i x
    → Some (look x) ≡ slice_get (map look xs) i
item_there look [] i x h is = absurd (omega (arith, h))
item_there look (y ∷ ys) zero x h is = ap (λ z. Some (look z)) is
item_there look (y ∷ ys) (suc i) x h is = item_there look ys i x (omega (arith, h)) is

pub no_item : {V W : Type 0} (look : V → W) (xs : List V) (i : ℕ) → length xs ≤ i → None ≡ slice_get (map look xs) i
no_item look [] i h = refl
no_item look (y ∷ ys) zero h = absurd (omega (arith, h))
no_item look (y ∷ ys) (suc i) h = no_item look ys i (omega (arith, h))

-- an item is the one of its index, whatever stands for none
pub item_is : {V : Type 0} (xs : List V) (i : ℕ) (none : V) → i < length xs
    → get_or xs i none ≡ get_or xs i (get_or xs i none)
item_is [] i none h = absurd (omega (arith, h))
item_is (y ∷ ys) zero none h = refl
item_is (y ∷ ys) (suc i) none h = item_is ys i none (omega (arith, h))

differ : {W : Type 0} (v : W) → Some v ≡ None → ⊥
differ v e = cc

passed : {W : Type 0} (b : Bool) (v r : W) (a c : Option W) → (if b then Some v else a) ≡ None
    → (a ≡ None → c ≡ Some r) → (if b then Some v else c) ≡ Some r
passed true v r a c h k = absurd (differ v h)
passed false v r a c h k = k h

pub found_here : {V W : Type 0} (look : V → W) (p : W → Bool) (xs : List V) (i : ℕ) (x : V) → i < length xs
    → x ≡ get_or xs i x → p (look x) ≡ true → find p (map look (take i xs)) ≡ None
    → find p (map look xs) ≡ Some (look x)
found_here look p [] i x h is e inv = absurd (omega (arith, h))
found_here look p (y ∷ ys) zero x h is e inv =
    ap (λ z. if p (look z) then Some (look z) else find p (map look ys)) (sym is)
    ∙ ap (λ b. if b then Some (look x) else find p (map look ys)) e
found_here look p (y ∷ ys) (suc i) x h is e inv =
    passed (p (look y)) (look y) (look x) (find p (map look (take i ys))) (find p (map look ys)) inv
    (found_here look p ys i x (omega (arith, h)) is e)

module _ {V W : Type 0} (look : V → W) (xs : List V) (i : ℕ) (x : V) (h : i < length xs) (is : x ≡ get_or xs i x) where
  pub not_yet : (p : W → Bool) → p (look x) ≡ false → find p (map look (take i xs)) ≡ None
      → find p (map look (take (i + 1) xs)) ≡ None
  not_yet p e inv =
      ap (λ l. find p (map look l)) (next_taken xs i x h is)
      ∙ ap (find p) (map-append look (take i xs) (x ∷ []))
      ∙ find-append p (map look (take i xs)) (look x ∷ [])
      ∙ ap (λ o. option_or o (find p (look x ∷ []))) inv
      ∙ ap (λ b. if b then Some (look x) else None) e
