-- How many elements of a list pass a test, from its front on.
use Rattle.std.proofs.Common.{ℕ, zero, suc, ◌+◌, ◌≤◌, ◌≡◌, Bool, true, false, cond, ◌&&◌, eqb, List, [], ◌∷◌}
use Rattle.std.proofs.Common.{length, take, drop, refl, ap, ◌∙◌, arith}
use Rattle.std.specs.List.{list_all, prefix_len}
use Rattle.std.proofs.lemmas.Bool.{and_parts}
use Rattle.std.proofs.lemmas.Bool.Decides.{nat_tests}

-- it's all of them where all pass
one_more : (b : Bool) (n m : ℕ) (a : Bool) → eqb n m ≡ a → eqb (cond b (1 + n) 0) (suc m) ≡ (b && a)
one_more true n m a h = same n m ∙ h
  where
    same : (x y : ℕ) → eqb (1 + x) (suc y) ≡ eqb x y
    same x y = grind (arith, nat_tests)
one_more false n m a h = none m
  where
    none : (y : ℕ) → eqb 0 (suc y) ≡ false
    none y = grind (arith, nat_tests)

pub prefix_all : {X : Type 0} (p : X → Bool) (xs : List X) → eqb (prefix_len p xs) (length xs) ≡ list_all p xs
prefix_all p [] = refl
prefix_all p (x ∷ xs) = one_more (p x) (prefix_len p xs) (length xs) (list_all p xs) (prefix_all p xs)

-- `n` that pass come before the others
pub prefix_passed : {X : Type 0} (p : X → Bool) (n : ℕ) (xs : List X) → n ≤ length xs → list_all p (take n xs) ≡ true
    → n + prefix_len p (drop n xs) ≡ prefix_len p xs
prefix_passed p zero xs le h = omega arith
prefix_passed p (suc n) [] le h = absurd (omega (arith, le))
prefix_passed p (suc n) (x ∷ xs) le h =
    let parts = and_parts (p x) (list_all p (take n xs)) h in
    let rest = prefix_passed p n xs (omega (arith, le)) parts.1 in
    rw (parts.0) (omega (arith, rest))

-- each of them passes
pub prefix_taken : {X : Type 0} (p : X → Bool) (most : ℕ) (xs : List X)
    → list_all p (take (prefix_len p (take most xs)) xs) ≡ true
prefix_taken p zero xs = refl
prefix_taken p (suc n) [] = refl
prefix_taken p (suc n) (x ∷ xs) = step (p x) (prefix_len p (take n xs)) refl (prefix_taken p n xs)
  where
    step : (b : Bool) (k : ℕ) → p x ≡ b → list_all p (take k xs) ≡ true
        → list_all p (take (cond b (1 + k) 0) (x ∷ xs)) ≡ true
    step true k e h = let one : 1 + k ≡ suc k = omega arith in ap (λ m. list_all p (take m (x ∷ xs))) one ∙ rw e h
    step false k e h = refl
