-- What holds of one of a list, or of each.
use Rattle.std.proofs.Common.{◌≡◌, ◌⊎◌, ℕ, zero, suc, ◌<◌, List, [], ◌∷◌, ◌++◌, Option, Some, None, Bool, true, false}
use Rattle.std.proofs.Common.{IfSome, arith, length, map, filter, get_or, refl, sym, subst, inl, inr}
use Rattle.std.specs.Prelude.{if◌then◌else◌}
use Rattle.std.specs.List.{AllByRecursion, Any, Contains, cons_option, filter_map, flat_map, list_any}
use Rattle.std.proofs.lemmas.Bool.{or_cases, or_parts}

-- ---- of one

abbrev pub Has : {X : Type 0} → (X → Type 0) → List X → Type 0
Has P [] = ⊥
Has P (x ∷ xs) = P x ⊎ Has P xs

pub has_more : {X : Type 0} (P : X → Type 0) (xs ys : List X) → Has P xs → Has P (xs ++ ys)
has_more P [] ys h = absurd h
has_more P (x ∷ xs) ys (inl p) = inl p
has_more P (x ∷ xs) ys (inr h) = inr (has_more P xs ys h)

pub has_after : {X : Type 0} (P : X → Type 0) (xs ys : List X) → Has P ys → Has P (xs ++ ys)
has_after P [] ys h = h
has_after P (x ∷ xs) ys h = inr (has_after P xs ys h)

pub has_map : {X Y : Type 0} (P : X → Type 0) (Q : Y → Type 0) (f : X → Y) → ((x : X) → P x → Q (f x)) → (xs : List X)
    → Has P xs → Has Q (map f xs)
has_map P Q f each [] h = absurd h
has_map P Q f each (x ∷ xs) (inl p) = inl (each x p)
has_map P Q f each (x ∷ xs) (inr h) = inr (has_map P Q f each xs h)

pub has_each : {X : Type 0} (P Q : X → Type 0) → ((x : X) → P x → Q x) → (xs : List X) → Has P xs → Has Q xs
has_each P Q each [] h = absurd h
has_each P Q each (x ∷ xs) (inl p) = inl (each x p)
has_each P Q each (x ∷ xs) (inr h) = inr (has_each P Q each xs h)

pub has_flat : {X Y : Type 0} (P : X → Type 0) (Q : Y → Type 0) (f : X → List Y) → ((x : X) → P x → Has Q (f x))
    → (xs : List X) → Has P xs → Has Q (flat_map f xs)
has_flat P Q f each [] h = absurd h
has_flat P Q f each (x ∷ xs) (inl p) = has_more Q (f x) (flat_map f xs) (each x p)
has_flat P Q f each (x ∷ xs) (inr h) = has_after Q (f x) (flat_map f xs) (has_flat P Q f each xs h)

has_cons : {Y : Type 0} (Q : Y → Type 0) (o : Option Y) (ys : List Y) → Has Q ys → Has Q (cons_option o ys)
has_cons Q None ys h = h
has_cons Q (Some y) ys h = inr h

pub has_made : {X Y : Type 0} (P : X → Type 0) (Q : Y → Type 0) (f : X → Option Y)
    → ((x : X) → P x → (y : Y) × (f x ≡ Some y) × Q y) → (xs : List X) → Has P xs → Has Q (filter_map f xs)
has_made P Q f each [] h = absurd h
has_made P Q f each (x ∷ xs) (inl p) =
    let it = each x p in subst (λ o. Has Q (cons_option o (filter_map f xs))) (sym it.1) (inl it.2)
has_made P Q f each (x ∷ xs) (inr h) = has_cons Q (f x) (filter_map f xs) (has_made P Q f each xs h)

kept_by : {X : Type 0} (P : X → Type 0) (b : Bool) (x : X) (xs : List X) → b ≡ true → P x
    → Has P (if b then x ∷ xs else xs)
kept_by P true x xs e p = inl p
kept_by P false x xs e p = cc

kept_after : {X : Type 0} (P : X → Type 0) (b : Bool) (x : X) (xs : List X) → Has P xs
    → Has P (if b then x ∷ xs else xs)
kept_after P true x xs h = inr h
kept_after P false x xs h = h

pub has_kept : {X : Type 0} (P : X → Type 0) (p : X → Bool) → ((x : X) → P x → p x ≡ true) → (xs : List X) → Has P xs
    → Has P (filter p xs)
has_kept P p each [] h = absurd h
has_kept P p each (x ∷ xs) (inl it) = kept_by P (p x) x (filter p xs) (each x it) it
has_kept P p each (x ∷ xs) (inr h) = kept_after P (p x) x (filter p xs) (has_kept P p each xs h)

pub has_by : {X : Type 0} (p : X → Bool) (xs : List X) → list_any p xs ≡ true → Has (λ x. p x ≡ true) xs
has_by p [] e = cc
has_by p (x ∷ xs) e =
    elim (or_cases (p x) (list_any p xs) e) [ inl here ↦ inl here | inr there ↦ inr (has_by p xs there) ]

pub has_split : {X : Type 0} (P Q : X → Type 0) (xs : List X) → Has (λ x. P x ⊎ Q x) xs → Has P xs ⊎ Has Q xs
has_split P Q [] h = absurd h
has_split P Q (x ∷ xs) (inl (inl p)) = inl (inl p)
has_split P Q (x ∷ xs) (inl (inr q)) = inr (inl q)
has_split P Q (x ∷ xs) (inr h) =
    elim (has_split P Q xs h) [ inl there ↦ inl (inr there) | inr there ↦ inr (inr there) ]

pub has_any : {X : Type 0} (P : X → Type 0) (xs : List X) → Has P xs → Any P xs
has_any P [] h = absurd h
has_any P (x ∷ xs) (inl p) = (0, x, omega arith, refl, p)
has_any P (x ∷ xs) (inr h) =
    let there = has_any P xs h in
    let less : suc there.0 < length (x ∷ xs) = omega (arith, there.2) in
    (suc there.0, there.1, less, there.3, there.4)

-- one by itself, with its place
pub has_found : {X : Type 0} (P : X → Type 0) (xs : List X) → Has P xs → (x : X) × Contains xs x × P x
has_found P xs h = let it = has_any P xs h in (it.1, (it.0, it.2, it.3), it.4)

has_at : {X : Type 0} (P : X → Type 0) (xs : List X) (k : ℕ) (x : X) → k < length xs → get_or xs k x ≡ x → P x
    → Has P xs
has_at P [] k x less is p = absurd (omega (arith, less))
has_at P (y ∷ ys) zero x less is p = inl (subst P (sym is) p)
has_at P (y ∷ ys) (suc k) x less is p =
    let fewer : k < length ys = omega (arith, less) in inr (has_at P ys k x fewer is p)

pub has_it : {X : Type 0} (P : X → Type 0) (xs : List X) (x : X) → Contains xs x → P x → Has P xs
has_it P xs x is p = has_at P xs is.0 x is.1 is.2 p

-- it itself is there
abbrev pub Is : {X : Type 0} → X → X → Type 0
Is x y = y ≡ x

pub it_is_there : {X : Type 0} (xs : List X) (x : X) → Has (Is x) xs → Contains xs x
it_is_there xs x h =
    let it = has_found (Is x) xs h in subst (λ y. Contains xs y) it.2 it.1

pub any_each : {X : Type 0} (P Q : X → Type 0) → ((x : X) → P x → Q x) → (xs : List X) → Any P xs → Any Q xs
any_each P Q each xs h = (h.0, h.1, h.2, h.3, each h.1 h.4)

-- ---- of each

pub all_each : {X : Type 0} (P Q : X → Type 0) → ((x : X) → P x → Q x) → (xs : List X) → AllByRecursion P xs
    → AllByRecursion Q xs
all_each P Q each [] h = tt
all_each P Q each (x ∷ xs) h = (each x h.0, all_each P Q each xs h.1)

pub all_more : {X : Type 0} (P : X → Type 0) (xs ys : List X) → AllByRecursion P xs → AllByRecursion P ys
    → AllByRecursion P (xs ++ ys)
all_more P [] ys h k = k
all_more P (x ∷ xs) ys h k = (h.0, all_more P xs ys h.1 k)

pub all_no : {X : Type 0} (p : X → Bool) (xs : List X) → list_any p xs ≡ false → AllByRecursion (λ x. p x ≡ false) xs
all_no p [] e = tt
all_no p (x ∷ xs) e = let parts = or_parts (p x) (list_any p xs) e in (parts.0, all_no p xs parts.1)

-- each one of a list is in it
pub all_there : {X : Type 0} (xs : List X) → AllByRecursion (λ x. Has (Is x) xs) xs
all_there [] = tt
all_there (x ∷ xs) =
    (inl refl, all_each (λ y. Has (Is y) xs) (λ y. Has (Is y) (x ∷ xs)) (λ y h. inr h) xs (all_there xs))

-- what is made of the items of a list
pub all_flat : {X Y : Type 0} (S : Y → X → Type 0) (f : X → List Y) → ((x : X) → AllByRecursion (λ y. S y x) (f x))
    → (xs : List X) → AllByRecursion (λ y. Has (S y) xs) (flat_map f xs)
all_flat S f each [] = tt
all_flat S f each (x ∷ xs) =
    all_more (λ y. Has (S y) (x ∷ xs)) (f x) (flat_map f xs)
    (all_each (λ y. S y x) (λ y. Has (S y) (x ∷ xs)) (λ y h. inl h) (f x) (each x))
    (all_each (λ y. Has (S y) xs) (λ y. Has (S y) (x ∷ xs)) (λ y h. inr h) (flat_map f xs) (all_flat S f each xs))

made_by : {Y : Type 0} (Q : Y → Type 0) (o : Option Y) (ys : List Y) → IfSome o Q → AllByRecursion Q ys
    → AllByRecursion Q (cons_option o ys)
made_by Q None ys p h = h
made_by Q (Some y) ys p h = (p, h)

pub all_made : {X Y : Type 0} (Q : Y → Type 0) (f : X → Option Y) → ((x : X) → IfSome (f x) Q) → (xs : List X)
    → AllByRecursion Q (filter_map f xs)
all_made Q f each [] = tt
all_made Q f each (x ∷ xs) = made_by Q (f x) (filter_map f xs) (each x) (all_made Q f each xs)
