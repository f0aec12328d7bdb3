-- The two cases of a test.
use Rattle.std.proofs.Common.{◌≡◌, Bool, true, false, refl}

pub by_cases : {C : Type 0} (b : Bool) → (b ≡ true → C) → (b ≡ false → C) → C
by_cases true f g = f refl
by_cases false f g = g refl
