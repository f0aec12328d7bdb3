-- One item more of a list that a loop goes over, and one of several items, by what is seen of it.
use Rattle.std.proofs.Common.{◌≡◌, ℕ, zero, suc, ◌+◌, ◌<◌, List, [], ◌∷◌, ◌++◌, Bool, true, false, length, get_or}
use Rattle.std.proofs.Common.{take, map, Option, Some, None, arith, refl, sym, ap, ap₂, ◌∙◌, append_assoc}
use Rattle.std.specs.Prelude.{◌||◌, ◌&&◌, filter, if◌then◌else◌}
use Rattle.std.specs.List.{list_any, list_all, filter_map, cons_option, flat_map, fold}
use Rattle.std.proofs.lemmas.Grind.{flat_map-append, fold-append}
use Rattle.std.proofs.lemmas.List.{append-nil, map-append, take_more}
use Rattle.std.proofs.lemmas.List.Elements.{filter-append, filter_map-append}
use Rattle.std.proofs.lemmas.List.Folds.{list_all-append}

pub next_taken : {V : Type 0} (xs : List V) (i : ℕ) (x : V) → i < length xs → x ≡ get_or xs i x
    → take (i + 1) xs ≡ take i xs ++ x ∷ []
next_taken xs i x h is = take_more xs i x h ∙ ap (λ y. take i xs ++ y ∷ []) (sym is)

pub fold_next : {A V : Type 0} (f : A → V → A) (first : A) (xs : List V) (i : ℕ) (x : V) → i < length xs
    → x ≡ get_or xs i x → fold f first (take (i + 1) xs) ≡ f (fold f first (take i xs)) x
fold_next f first xs i x h is = ap (fold f first) (next_taken xs i x h is) ∙ fold-append f first (take i xs) (x ∷ [])

pub flat_next : {V Y : Type 0} (g : V → List Y) (xs : List V) (i : ℕ) (x : V) → i < length xs → x ≡ get_or xs i x
    → flat_map g (take (i + 1) xs) ≡ flat_map g (take i xs) ++ g x
flat_next g xs i x h is =
    ap (flat_map g) (next_taken xs i x h is) ∙ flat_map-append g (take i xs) (x ∷ [])
    ∙ ap (λ l. flat_map g (take i xs) ++ l) (append-nil (g x))

pub any_of : {V W : Type 0} (look : V → W) (p : W → Bool) (xs : List V)
    → list_any (λ x. p (look x)) xs ≡ list_any p (map look xs)
any_of look p [] = refl
any_of look p (x ∷ xs) = ap (λ b. p (look x) || b) (any_of look p xs)

pub all_of : {V W : Type 0} (look : V → W) (p : W → Bool) (xs : List V)
    → list_all (λ x. p (look x)) xs ≡ list_all p (map look xs)
all_of look p [] = refl
all_of look p (x ∷ xs) = ap (λ b. p (look x) && b) (all_of look p xs)

and_no : (b : Bool) → (b && false) ≡ false
and_no true = refl
and_no false = refl

pub not_all : {V W : Type 0} (look : V → W) (p : W → Bool) (xs : List V) (i : ℕ) (x : V) → i < length xs
    → x ≡ get_or xs i x → p (look x) ≡ false → list_all p (map look xs) ≡ false
not_all look p [] i x h is e = absurd (omega (arith, h))
not_all look p (y ∷ ys) zero x h is e =
    ap (λ z. p (look z) && list_all p (map look ys)) (sym is) ∙ ap (λ b. b && list_all p (map look ys)) e
not_all look p (y ∷ ys) (suc i) x h is e =
    ap (λ b. p (look y) && b) (not_all look p ys i x (omega (arith, h)) is e) ∙ and_no (p (look y))

module _ {V W : Type 0} (look : V → W) (xs : List V) (i : ℕ) (x : V) (h : i < length xs) (is : x ≡ get_or xs i x) where
  next_seen : map look (take (i + 1) xs) ≡ map look (take i xs) ++ look x ∷ []
  next_seen = ap (map look) (next_taken xs i x h is) ∙ map-append look (take i xs) (x ∷ [])

  pub all_more : (p : W → Bool) → list_all p (map look (take i xs)) ≡ true → p (look x) ≡ true
      → list_all p (map look (take (i + 1) xs)) ≡ true
  all_more p inv e =
      ap (list_all p) next_seen ∙ list_all-append p (map look (take i xs)) (look x ∷ [])
      ∙ ap₂ (λ a b. a && (b && true)) inv e

  next_found : {Y : Type 0} (g : W → Option Y)
      → filter_map g (map look (take (i + 1) xs)) ≡ filter_map g (map look (take i xs)) ++ cons_option (g (look x)) []
  next_found g = ap (filter_map g) next_seen ∙ filter_map-append g (map look (take i xs)) (look x ∷ [])

  pub found_more : {Y : Type 0} (g : W → Option Y) (initial old new : List Y) (made : Y) → g (look x) ≡ Some made
      → new ≡ old ++ made ∷ [] → old ≡ initial ++ filter_map g (map look (take i xs))
      → new ≡ initial ++ filter_map g (map look (take (i + 1) xs))
  found_more g initial old new made e pushed inv =
      let before = filter_map g (map look (take i xs)) in
      pushed ∙ ap (λ l. l ++ made ∷ []) inv ∙ append_assoc initial before (made ∷ [])
      ∙ ap (λ o. initial ++ (before ++ cons_option o [])) (sym e) ∙ ap (λ l. initial ++ l) (sym (next_found g))

  -- one more that is found, where all are
  pub found_more_all : {Y : Type 0} (p : W → Bool) (g : W → Option Y) (old new : List Y) (made : Y) → p (look x) ≡ true
      → g (look x) ≡ Some made → new ≡ old ++ made ∷ [] → list_all p (map look (take i xs)) ≡ true
      → old ≡ filter_map g (map look (take i xs))
      → (list_all p (map look (take (i + 1) xs)) ≡ true) × (new ≡ filter_map g (map look (take (i + 1) xs)))
  found_more_all p g old new made is e pushed all inv =
      (all_more p all is, found_more g [] old new made e pushed inv)

  pub found_no_more : {Y : Type 0} (g : W → Option Y) (initial old : List Y) → g (look x) ≡ None
      → old ≡ initial ++ filter_map g (map look (take i xs))
      → old ≡ initial ++ filter_map g (map look (take (i + 1) xs))
  found_no_more g initial old e inv =
      let before = filter_map g (map look (take i xs)) in
      inv ∙ ap (λ l. initial ++ l) (sym (append-nil before))
      ∙ ap (λ o. initial ++ (before ++ cons_option o [])) (sym e) ∙ ap (λ l. initial ++ l) (sym (next_found g))

  pub fold_more : {A : Type 0} (f : A → W → A) (first old new : A) → new ≡ f old (look x)
      → old ≡ fold f first (map look (take i xs)) → new ≡ fold f first (map look (take (i + 1) xs))
  fold_more f first old new e inv =
      e ∙ ap (λ a. f a (look x)) inv ∙ sym (fold-append f first (map look (take i xs)) (look x ∷ []))
      ∙ ap (fold f first) (sym next_seen)

  pub flat_more : {Y : Type 0} (g : W → List Y) (initial old new : List Y) → new ≡ old ++ g (look x)
      → old ≡ initial ++ flat_map g (map look (take i xs))
      → new ≡ initial ++ flat_map g (map look (take (i + 1) xs))
  flat_more g initial old new e inv =
      let before = flat_map g (map look (take i xs)) in
      e ∙ ap (λ l. l ++ g (look x)) inv ∙ append_assoc initial before (g (look x))
      ∙ ap (λ l. initial ++ (before ++ l)) (sym (append-nil (g (look x))))
      ∙ ap (λ l. initial ++ l) (sym (flat_map-append g (map look (take i xs)) (look x ∷ [])))
      ∙ ap (λ l. initial ++ flat_map g l) (sym next_seen)

  -- what is made of an item has the value that is told of it
  pub map_more : {S Y : Type 0} (value : S → Y) (g : W → Y) (initial : List Y) (old new : List S) (made : S)
      → value made ≡ g (look x) → new ≡ old ++ made ∷ [] → map value old ≡ initial ++ map g (map look (take i xs))
      → map value new ≡ initial ++ map g (map look (take (i + 1) xs))
  map_more value g initial old new made e pushed inv =
      let before = map g (map look (take i xs)) in
      ap (map value) pushed ∙ map-append value old (made ∷ []) ∙ ap₂ (λ l y. l ++ y ∷ []) inv e
      ∙ append_assoc initial before (g (look x) ∷ [])
      ∙ ap (λ l. initial ++ l) (sym (map-append g (map look (take i xs)) (look x ∷ [])))
      ∙ ap (λ l. initial ++ map g l) (sym next_seen)

  pub told_more : {Y : Type 0} (g : W → Y) (initial old new : List Y) (made : Y) → made ≡ g (look x)
      → new ≡ old ++ made ∷ [] → old ≡ initial ++ map g (map look (take i xs))
      → new ≡ initial ++ map g (map look (take (i + 1) xs))
  told_more g initial old new made e pushed inv =
      let before = map g (map look (take i xs)) in
      pushed ∙ ap₂ (λ l y. l ++ y ∷ []) inv e ∙ append_assoc initial before (g (look x) ∷ [])
      ∙ ap (λ l. initial ++ l) (sym (map-append g (map look (take i xs)) (look x ∷ [])))
      ∙ ap (λ l. initial ++ map g l) (sym next_seen)

  next_kept : (p : W → Bool) → filter p (map look (take (i + 1) xs))
      ≡ filter p (map look (take i xs)) ++ (if p (look x) then look x ∷ [] else [])
  next_kept p = ap (filter p) next_seen ∙ filter-append p (map look (take i xs)) (look x ∷ [])

  pub kept_more : (p : W → Bool) (initial old new : List W) → p (look x) ≡ true → new ≡ old ++ look x ∷ []
      → old ≡ initial ++ filter p (map look (take i xs)) → new ≡ initial ++ filter p (map look (take (i + 1) xs))
  kept_more p initial old new e pushed inv =
      let before = filter p (map look (take i xs)) in
      pushed ∙ ap (λ l. l ++ look x ∷ []) inv ∙ append_assoc initial before (look x ∷ [])
      ∙ ap (λ b. initial ++ (before ++ (if b then look x ∷ [] else []))) (sym e)
      ∙ ap (λ l. initial ++ l) (sym (next_kept p))

  pub kept_no_more : (p : W → Bool) (initial old : List W) → p (look x) ≡ false
      → old ≡ initial ++ filter p (map look (take i xs)) → old ≡ initial ++ filter p (map look (take (i + 1) xs))
  kept_no_more p initial old e inv =
      let before = filter p (map look (take i xs)) in
      inv ∙ ap (λ l. initial ++ l) (sym (append-nil before))
      ∙ ap (λ b. initial ++ (before ++ (if b then look x ∷ [] else []))) (sym e)
      ∙ ap (λ l. initial ++ l) (sym (next_kept p))

  pub fold_kept : {A Y : Type 0} (f : A → Y → A) (first old new : A) (made : W → Y) (p : W → Bool) → p (look x) ≡ true
      → new ≡ f old (made (look x)) → old ≡ fold f first (map made (filter p (map look (take i xs))))
      → new ≡ fold f first (map made (filter p (map look (take (i + 1) xs))))
  fold_kept f first old new made p e pushed inv =
      let before = filter p (map look (take i xs)) in
      pushed ∙ ap (λ a. f a (made (look x))) inv
      ∙ sym (fold-append f first (map made before) (made (look x) ∷ []))
      ∙ ap (fold f first) (sym (map-append made before (look x ∷ [])))
      ∙ ap (λ b. fold f first (map made (before ++ (if b then look x ∷ [] else [])))) (sym e)
      ∙ ap (λ l. fold f first (map made l)) (sym (next_kept p))

  pub fold_stays : {A Y : Type 0} (f : A → Y → A) (first old : A) (made : W → Y) (p : W → Bool) → p (look x) ≡ false
      → old ≡ fold f first (map made (filter p (map look (take i xs))))
      → old ≡ fold f first (map made (filter p (map look (take (i + 1) xs))))
  fold_stays f first old made p e inv =
      let before = filter p (map look (take i xs)) in
      inv ∙ ap (λ l. fold f first (map made l)) (sym (append-nil before))
      ∙ ap (λ b. fold f first (map made (before ++ (if b then look x ∷ [] else [])))) (sym e)
      ∙ ap (λ l. fold f first (map made l)) (sym (next_kept p))
