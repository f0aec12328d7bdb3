-- The `u64` that a number's text writes.
use Rattle.std.proofs.Common.{◌≡◌, ℕ, ℤ, ◌^◌, ◌<◌, ◌==◌, Bool, true, false, length, Float, Option, Some, None, SomeIff}
use Rattle.std.proofs.Common.{refl, sym, ap, true≢false, lt-ltb}
use Rattle.std.proofs.lemmas.Bool.{ltb-true, eqb-true, eq-eqb}
use Rattle.std.specs.Prelude.{◌&&◌, not, unwrap_or, nat_lt, if◌then◌else◌}
use Rattle.fast_float.specs.Text.{Parts, digits_of, IsInteger}
use Rattle.serde_json.specs.Data.{Num, unsigned, negative, float}
use Rattle.serde_json.specs.Find.{as_u64, to_float}
use Rattle.serde_json.specs.Read.{is_integer, number_from}

-- what a number's text stands for where no number is read from it
abbrev pub no_number : Num
no_number = float (to_float (unsigned 0))

below_zero : (b c : Bool) (i : ℤ) (x : Float) → as_u64
    (unwrap_or (if b then Some (negative i) else (if c then Some (float x) else None)) no_number) ≡ None
below_zero true c i x = refl
below_zero false true i x = refl
below_zero false false i x = refl

pub signed_is : (p : Parts) → as_u64 (unwrap_or (number_from true p) no_number) ≡ None
signed_is p = below_zero _ _ _ _

decided : (b c : Bool) (n : ℕ) (x : Float) (r : Option ℕ) (P : Type 0) → (b ≡ true → P) → (P → b ≡ true) → SomeIff r P n
    → r ≡ as_u64 (unwrap_or (if b then Some (unsigned n) else (if c then Some (float x) else None)) no_number)
decided true c n x (Some m) P f g h = ap Some h.1
decided true c n x None P f g h = absurd (h (f refl))
decided false c n x (Some m) P f g h = absurd (true≢false (sym (g h.0)))
decided false true n x None P f g h = refl
decided false false n x None P f g h = refl

all_four : (a b c d : Bool) → (a && not b && c) && d ≡ true → (a ≡ true) × (b ≡ false) × (c ≡ true) × (d ≡ true)
all_four true false true true e = (refl, refl, refl, refl)
all_four true false true false e = absurd (true≢false (sym e))
all_four true false false d e = absurd (true≢false (sym e))
all_four true true c d e = absurd (true≢false (sym e))
all_four false b c d e = absurd (true≢false (sym e))

fits : (p : Parts) → is_integer p && nat_lt (digits_of p) (2 ^ 64) ≡ true → IsInteger p × (digits_of p < 2 ^ 64)
fits p e = let t = all_four (nat_lt 0 (length p.whole)) p.point (length p.exponent == 0) (nat_lt (digits_of p) (2 ^ 64))
    e in ((ltb-true _ _ t.0, t.1, eqb-true _ _ t.2), ltb-true _ _ t.3)

fitting : (p : Parts) → IsInteger p × (digits_of p < 2 ^ 64) → is_integer p && nat_lt (digits_of p) (2 ^ 64) ≡ true
fitting p h = rw (lt-ltb _ _ h.0.0, h.0.1, eq-eqb _ _ h.0.2, lt-ltb _ _ h.1)

pub natural_is : (p : Parts) (r : Option ℕ) → SomeIff r (IsInteger p × (digits_of p < 2 ^ 64)) (digits_of p) → r
    ≡ as_u64 (unwrap_or (number_from false p) no_number)
natural_is p r h = decided (is_integer p && nat_lt (digits_of p) (2 ^ 64)) _ (digits_of p) _ r
    (IsInteger p × (digits_of p < 2 ^ 64)) (fits p) (fitting p) h
