-- A text and the line feed that ends it.
use Rattle.std.proofs.Common.{◌≡◌, ◌≢◌, ℕ, List, [], ◌∷◌, ◌++◌, Bool, true, false, refl, ap}
use Rattle.std.specs.Prelude.{◌==◌, if◌then◌else◌}
use Rattle.std.proofs.lemmas.Bool.{eqb-true}
use Rattle.miette_read.specs.rules.EditMessage.{without_end}

pub ending_left : (front : List ℕ) → without_end (front ++ 10 ∷ []) ≡ front
ending_left [] = refl
ending_left (b ∷ []) = refl
ending_left (b ∷ (c ∷ cs)) = ap (λ l. b ∷ l) (ending_left (c ∷ cs))

last_by : (b : ℕ) (t : Bool) → (b == 10) ≡ t → ((front : List ℕ) → b ∷ [] ≢ front ++ 10 ∷ [])
    → (if t then [] else b ∷ []) ≡ b ∷ []
last_by b true e h = absurd (h [] (ap (λ x. x ∷ []) (eqb-true b 10 e)))
last_by b false e h = refl

pub no_ending : (text : List ℕ) → ((front : List ℕ) → text ≢ front ++ 10 ∷ []) → without_end text ≡ text
no_ending [] h = refl
no_ending (b ∷ []) h = last_by b (b == 10) refl h
no_ending (b ∷ (c ∷ cs)) h =
    ap (λ l. b ∷ l) (no_ending (c ∷ cs) (λ front e. h (b ∷ front) (ap (λ l. b ∷ l) e)))
