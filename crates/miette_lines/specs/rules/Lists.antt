-- Lists: whether one is empty, and one more item in front of a split list.
use Rattle.std.specs.Prelude.{Bool, true, false, List, [], ◌∷◌}

abbrev pub is_nil : {A : Type 0} → List A → Bool
is_nil [] = true
is_nil (x ∷ xs) = false

-- adds an item to the first part, or begins a new part with it
abbrev pub onto : {A : Type 0} → A → List (List A) → List (List A)
onto x [] = (x ∷ []) ∷ []
onto x (p ∷ ps) = (x ∷ p) ∷ ps
