-- Texts in which some bytes are written otherwise, one after the other.
use Rattle.std.proofs.Common.{◌≡◌, ℕ, zero, suc, ◌+◌, ◌<◌, ◌≤◌, Bool, true, false, cond, List, [], ◌∷◌, ◌++◌, refl, sym}
use Rattle.std.proofs.Common.{ap, ◌∙◌, arith, append_assoc, add-one, length, get_or, take, drop}
use Rattle.std.specs.Prelude.{nat_lt, not, Some, None, position}
use Rattle.std.specs.List.{position_or_len, prefix_len}
use Rattle.std.proofs.Math.Seq.{drop-cons}
use Rattle.std.proofs.lemmas.List.Quantifiers.{position-Some}
use Rattle.std.proofs.lemmas.Bool.{ltb-false}

-- which bytes those are, what is written for each byte, and the whole text
pub record Escapes : Type 0 where
  pub is_escaped : ℕ → Bool
  pub written : ℕ → List ℕ
  pub text : List ℕ → List ℕ
  pub none : text [] ≡ []
  pub more : (x : ℕ) (xs : List ℕ) → text (x ∷ xs) ≡ written x ++ text xs
  pub itself : (x : ℕ) → is_escaped x ≡ false → written x ≡ x ∷ []
  pub low : (x : ℕ) → is_escaped x ≡ true → x < 128

-- the first byte that doesn't stand for itself
pub record NextEscape (e : Escapes) (xs : List ℕ) (i : ℕ) : Type 0 where
  pub inside : i < length xs
  pub here : e.is_escaped (get_or xs i 0) ≡ true
  pub low : get_or xs i 0 < 128
  pub before : (k : ℕ) → k < i → e.is_escaped (get_or xs k 0) ≡ false

pub next_escape : (e : Escapes) (xs : List ℕ) (i : ℕ) → Some i ≡ position e.is_escaped xs → NextEscape e xs i
next_escape e xs i is =
    let found = position-Some e.is_escaped xs i 0 (sym is) in
    record { inside = found.0; here = found.1; low = e.low (get_or xs i 0) found.1; before = found.2 }

-- bytes that stand for themselves, in front of others
run_itself : (e : Escapes) (xs : List ℕ) (i : ℕ) → i ≤ length xs
    → ((k : ℕ) → k < i → e.is_escaped (get_or xs k 0) ≡ false) → e.text xs ≡ take i xs ++ e.text (drop i xs)
run_itself e xs zero h f = refl
run_itself e [] (suc i) h f = absurd (omega arith)
run_itself e (x ∷ xs) (suc i) h f =
    e.more x xs ∙ ap (λ l. l ++ e.text xs) (e.itself x (f 0 (omega arith)))
    ∙ ap (λ l. x ∷ l) (run_itself e xs i (omega arith) (λ k l. f (suc k) (omega arith)))

-- what is written up to it and with it
pub run_written : (e : Escapes) (start mid new xs goal : List ℕ) (i : ℕ) → NextEscape e xs i
    → start ++ e.text xs ≡ goal → mid ≡ start ++ take i xs → new ≡ mid ++ e.written (get_or xs i 0)
    → new ++ e.text (drop (i + 1) xs) ≡ goal
run_written e start mid new xs goal i n whole f g =
    let x = get_or xs i 0 in
    let here = e.written x in
    let after = e.text (drop (i + 1) xs) in
    let cut : e.text (drop i xs) ≡ here ++ after =
    ap e.text (drop-cons xs i 0 n.inside ∙ ap (λ k. x ∷ drop k xs) (sym (add-one i))) ∙ e.more x (drop (i + 1) xs) in
    let split : e.text xs ≡ take i xs ++ (here ++ after) =
    run_itself e xs i (omega (arith, n.inside)) n.before ∙ ap (λ l. take i xs ++ l) cut in
    ap (λ l. l ++ after) g ∙ (append_assoc mid here after
    ∙ (ap (λ l. l ++ (here ++ after)) f ∙ (append_assoc start (take i xs) (here ++ after)
    ∙ (ap (λ l. start ++ l) (sym split) ∙ whole))))

-- each byte stands for itself where none is found that doesn't
one_plain : (e : Escapes) (x : ℕ) (xs : List ℕ) (b : Bool) → e.is_escaped x ≡ b → suc (length xs)
    ≤ cond (not b) (1 + prefix_len (λ y. not (e.is_escaped y)) xs) 0
    → (length xs ≤ prefix_len (λ y. not (e.is_escaped y)) xs → e.text xs ≡ xs) → e.text (x ∷ xs) ≡ x ∷ xs
one_plain e x xs true is l f = absurd (omega arith)
one_plain e x xs false is l f =
    e.more x xs ∙ ap (λ b. b ++ e.text xs) (e.itself x is) ∙ ap (λ b. x ∷ b) (f (omega arith))

all_plain : (e : Escapes) (xs : List ℕ) → length xs ≤ prefix_len (λ x. not (e.is_escaped x)) xs → e.text xs ≡ xs
all_plain e [] h = e.none
all_plain e (x ∷ xs) h = one_plain e x xs (e.is_escaped x) refl h (all_plain e xs)

none_found : (e : Escapes) (xs : List ℕ) (b : Bool) → nat_lt (position_or_len e.is_escaped xs) (length xs) ≡ b → None
    ≡ cond b (Some (position_or_len e.is_escaped xs)) None → e.text xs ≡ xs
none_found e xs true f g = cc
none_found e xs false f g = all_plain e xs (ltb-false (position_or_len e.is_escaped xs) (length xs) f)

pub none_escaped : (e : Escapes) (xs : List ℕ) → None ≡ position e.is_escaped xs → e.text xs ≡ xs
none_escaped e xs is = none_found e xs (nat_lt (position_or_len e.is_escaped xs) (length xs)) refl is
