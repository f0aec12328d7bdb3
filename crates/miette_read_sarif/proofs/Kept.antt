-- One item more of a list of which those are kept that give something.
use Rattle.std.proofs.Common.{◌≡◌, ℕ, zero, suc, ◌+◌, ◌<◌, List, [], ◌∷◌, ◌++◌, Bool, true, false, length, get_or, take}
use Rattle.std.proofs.Common.{Option, Some, arith, refl, sym, ap, ap₂, ◌∙◌}
use Rattle.std.specs.Prelude.{◌&&◌}
use Rattle.std.specs.List.{cons_option, filter_map, list_all}
use Rattle.std.proofs.lemmas.List.Elements.{filter_map-append}
use Rattle.std.proofs.lemmas.List.Folds.{list_all-append}
use Rattle.miette_read.proofs.Steps.{next_taken}

pub and_no : (b : Bool) → (b && false) ≡ false
and_no true = refl
and_no false = refl

pub not_all : {V : Type 0} (p : V → Bool) (xs : List V) (i : ℕ) (x : V) → i < length xs → x ≡ get_or xs i x
    → p x ≡ false → list_all p xs ≡ false
not_all p [] i x h is e = absurd (omega (arith, h))
not_all p (y ∷ ys) zero x h is e = ap (λ z. p z && list_all p ys) (sym is) ∙ ap (λ b. b && list_all p ys) e
not_all p (y ∷ ys) (suc i) x h is e =
    ap (λ b. p y && b) (not_all p ys i x (omega (arith, h)) is e) ∙ and_no (p y)

module _ {V : Type 0} (xs : List V) (i : ℕ) (x : V) (h : i < length xs) (is : x ≡ get_or xs i x) where
  pub all_more : (p : V → Bool) → list_all p (take i xs) ≡ true → p x ≡ true → list_all p (take (i + 1) xs) ≡ true
  all_more p inv e =
      ap (list_all p) (next_taken xs i x h is) ∙ list_all-append p (take i xs) (x ∷ [])
      ∙ ap₂ (λ a b. a && (b && true)) inv e

  kept_next : {Y : Type 0} (g : V → Option Y)
      → filter_map g (take (i + 1) xs) ≡ filter_map g (take i xs) ++ cons_option (g x) []
  kept_next g = ap (filter_map g) (next_taken xs i x h is) ∙ filter_map-append g (take i xs) (x ∷ [])

  pub kept_more : {Y : Type 0} (g : V → Option Y) (old new : List Y) (made : Y) → g x ≡ Some made
      → new ≡ old ++ made ∷ [] → old ≡ filter_map g (take i xs) → new ≡ filter_map g (take (i + 1) xs)
  kept_more g old new made e pushed inv =
      pushed ∙ ap (λ l. l ++ made ∷ []) inv
      ∙ ap (λ o. filter_map g (take i xs) ++ cons_option o []) (sym e) ∙ sym (kept_next g)

  pub kept_by : {Y : Type 0} (g : V → Option Y) (old new : List Y) → new ≡ old ++ cons_option (g x) []
      → old ≡ filter_map g (take i xs) → new ≡ filter_map g (take (i + 1) xs)
  kept_by g old new pushed inv = pushed ∙ ap (λ l. l ++ cons_option (g x) []) inv ∙ sym (kept_next g)
