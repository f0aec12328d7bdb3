-- What the failure of a reader or writer says about a call.
use Rattle.std.specs.Prelude.{◌≡◌, ℕ, ◌<◌, ◌⊎◌, List, ◌++◌, length, Some, None, IsErr, Option, Result, Ok}

-- a write that failed, or that wrote nothing of a nonempty buffer
abbrev pub IsWriteFault : {E : Type 0} → Result ℕ E → List ℕ → Type 0
IsWriteFault r buf = IsErr r ⊎ ((r ≡ Ok 0) × (0 < length buf))

-- a writer that states its bytes has what it had, followed by a beginning of `bs`
abbrev pub TakesBeginning : Option (List ℕ) → Option (List ℕ) → List ℕ → Type 0
TakesBeginning None new bs = Unit {0}
TakesBeginning (Some xs) None bs = ⊥
TakesBeginning (Some xs) (Some ys) bs = (taken : List ℕ) × (rest : List ℕ) × (bs ≡ taken ++ rest) × (ys ≡ xs ++ taken)
