-- What a file store promises.
use Rattle.std.specs.Prelude.{◌≡◌, ℕ, List, [], ◌∷◌, ◌++◌, Option, Some, None, Bool, true, false, ⊤}

-- These texts were written under these names after the earlier ones, if the store tells.
abbrev pub Writes : Option (List (List ℕ × List ℕ)) → Option (List (List ℕ × List ℕ)) → List (List ℕ × List ℕ) → Type 0
Writes None new more = ⊤
Writes (Some old) None more = ⊥
Writes (Some old) (Some new) more = new ≡ old ++ more

abbrev pub IsWritten : Option (List (List ℕ × List ℕ)) → Option (List (List ℕ × List ℕ)) → Bool → List ℕ → List ℕ
    → Type 0
IsWritten old new true name text = Writes old new ((name, text) ∷ [])
IsWritten old new false name text = Writes old new []
