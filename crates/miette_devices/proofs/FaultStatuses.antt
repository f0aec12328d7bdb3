-- Which fault has which status.
use Rattle.std.proofs.Common.{◌≡◌, ℕ, ◌<◌, ◌↔◌, ◌⊎◌, inl, inr, Result, Ok, Err, OnErr, ap, refl, sym, ◌∙◌, arith}
use Rattle.miette_devices.specs.rules.Faults.{usual_status}
use Rattle.miette_devices.specs.declared.fault.ProgramError.{ProgramError}
use Rattle.miette_devices.specs.declared.fault.ProgramError.TheVariants.{Usage, Memory, Read, Write, Description}
use Rattle.miette_devices.specs.declared.fault.ProgramError.TheVariants.{Refused}

abbrev status_in : {T : Type 0} → Result T ProgramError → ℕ
status_in (Ok x) = 0
status_in (Err f) = usual_status f

-- of words that are refused, and of devices
pub plain-status : {T : Type 0} (r : Result T ProgramError) (f : ProgramError) (n : ℕ)
    → OnErr r ((r ≡ Err Usage) ⊎ (r ≡ Err Memory) ⊎ (r ≡ Err Read) ⊎ (r ≡ Err Write)) → r ≡ Err f → n ≡ usual_status f
    → n < 3
plain-status (Ok x) f n h e s = cc
plain-status (Err g) f n h e s =
    let same : usual_status g ≡ usual_status f = ap status_in e in
    elim h [
      | inl p ↦ (let k : usual_status g ≡ 2 = ap status_in p in omega (arith, s, same, k))
      | inr (inl p) ↦ (let k : usual_status g ≡ 1 = ap status_in p in omega (arith, s, same, k))
      | inr (inr (inl p)) ↦ (let k : usual_status g ≡ 1 = ap status_in p in omega (arith, s, same, k))
      | inr (inr (inr p)) ↦ (let k : usual_status g ≡ 1 = ap status_in p in omega (arith, s, same, k))
    ]

usage-of-two : (f : ProgramError) (n : ℕ) → n ≡ usual_status f → n ≡ 2 → f ≡ Usage
usage-of-two Usage n s two = refl
usage-of-two Memory n s two = let k : n ≡ 1 = s in absurd (omega (arith, k, two))
usage-of-two Read n s two = let k : n ≡ 1 = s in absurd (omega (arith, k, two))
usage-of-two Write n s two = let k : n ≡ 1 = s in absurd (omega (arith, k, two))
usage-of-two Description n s two = let k : n ≡ 3 = s in absurd (omega (arith, k, two))
usage-of-two Refused n s two = let k : n ≡ 4 = s in absurd (omega (arith, k, two))

pub only-usage : {T : Type 0} (P : Type 0) (r : Result T ProgramError) (f : ProgramError) (n : ℕ) → (r ≡ Err Usage → P)
    → r ≡ Err f
    → n ≡ usual_status f → n ≡ 2 → P
only-usage P r f n h e s two = h (e ∙ ap Err (usage-of-two f n s two))

-- the status is that of any fault that it is
status-as : {T : Type 0} (r : Result T ProgramError) (f g : ProgramError) (n : ℕ) → r ≡ Err f → n ≡ usual_status f → r
    ≡ Err g → n
    ≡ usual_status g
status-as r f g n e s is = let k : usual_status f ≡ usual_status g = ap status_in (sym e ∙ is) in s ∙ k

pub words-status : {T : Type 0} (P : Type 0) (r : Result T ProgramError) (f : ProgramError) (n : ℕ)
    → (P → (r ≡ Err Usage) ⊎ (r ≡ Err Memory)) → r ≡ Err f → n ≡ usual_status f → P → (n ≡ 2) ⊎ (n ≡ 1)
words-status P r f n h e s p =
    elim (h p) [
      | inl u ↦ inl (status-as r f Usage n e s u)
      | inr m ↦ inr (status-as r f Memory n e s m)
    ]

pub usage-status : {T : Type 0} (P : Type 0) (r : Result T ProgramError) (f : ProgramError) (n : ℕ)
    → ((r ≡ Err Usage) ↔ P) → r
    ≡ Err f → n ≡ usual_status f → (n ≡ 2) ↔ P
usage-status P r f n h e s = (only-usage P r f n h.0 e s, λ p. status-as r f Usage n e s (h.1 p))

-- no fault of a picture is one of the words
pub never-usage : {T : Type 0} (r : Result T ProgramError) → OnErr r ((r ≡ Err Memory) ⊎ (r ≡ Err Read)
    ⊎ (r ≡ Err Write)) → r
    ≡ Err Usage → ⊥
never-usage (Ok x) h e = cc
never-usage (Err f) h e =
    elim h [
      | inl p ↦ (let k : Err Memory ≡ Err Usage = sym p ∙ e in cc)
      | inr (inl p) ↦ (let k : Err Read ≡ Err Usage = sym p ∙ e in cc)
      | inr (inr p) ↦ (let k : Err Write ≡ Err Usage = sym p ∙ e in cc)
    ]

-- ---- what a status says of the fault

pub usual-below : (f : ProgramError) (n : ℕ) → n ≡ usual_status f → n < 5
usual-below Usage n s = let k : n ≡ 2 = s in omega (arith, k)
usual-below Memory n s = let k : n ≡ 1 = s in omega (arith, k)
usual-below Read n s = let k : n ≡ 1 = s in omega (arith, k)
usual-below Write n s = let k : n ≡ 1 = s in omega (arith, k)
usual-below Description n s = let k : n ≡ 3 = s in omega (arith, k)
usual-below Refused n s = let k : n ≡ 4 = s in omega (arith, k)

pub usual-positive : (f : ProgramError) (n : ℕ) → n ≡ usual_status f → n ≡ 0 → ⊥
usual-positive Usage n s z = let k : n ≡ 2 = s in omega (arith, k, z)
usual-positive Memory n s z = let k : n ≡ 1 = s in omega (arith, k, z)
usual-positive Read n s z = let k : n ≡ 1 = s in omega (arith, k, z)
usual-positive Write n s z = let k : n ≡ 1 = s in omega (arith, k, z)
usual-positive Description n s z = let k : n ≡ 3 = s in omega (arith, k, z)
usual-positive Refused n s z = let k : n ≡ 4 = s in omega (arith, k, z)

pub description-status : {T : Type 0} (r : Result T ProgramError) (f : ProgramError) (n : ℕ) → r ≡ Err f → n
    ≡ usual_status f → n ≡ 3
    → r ≡ Err Description
description-status r Usage n e s three = let k : n ≡ 2 = s in absurd (omega (arith, k, three))
description-status r Memory n e s three = let k : n ≡ 1 = s in absurd (omega (arith, k, three))
description-status r Read n e s three = let k : n ≡ 1 = s in absurd (omega (arith, k, three))
description-status r Write n e s three = let k : n ≡ 1 = s in absurd (omega (arith, k, three))
description-status r Description n e s three = e
description-status r Refused n e s three = let k : n ≡ 4 = s in absurd (omega (arith, k, three))

pub refused-status : {T : Type 0} (r : Result T ProgramError) (f : ProgramError) (n : ℕ) → r ≡ Err f → n
    ≡ usual_status f → n ≡ 4 → r
    ≡ Err Refused
refused-status r Usage n e s four = let k : n ≡ 2 = s in absurd (omega (arith, k, four))
refused-status r Memory n e s four = let k : n ≡ 1 = s in absurd (omega (arith, k, four))
refused-status r Read n e s four = let k : n ≡ 1 = s in absurd (omega (arith, k, four))
refused-status r Write n e s four = let k : n ≡ 1 = s in absurd (omega (arith, k, four))
refused-status r Description n e s four = let k : n ≡ 3 = s in absurd (omega (arith, k, four))
refused-status r Refused n e s four = e
