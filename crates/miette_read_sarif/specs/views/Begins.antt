-- The first bytes of sequences.
use Rattle.std.specs.Prelude.{◌≡◌, ℕ, ◌<◌, List, [], ◌∷◌, Bool, false, slice_index}

-- The first byte satisfies the test.
abbrev pub begins_by : (ℕ → Bool) → List ℕ → Bool
begins_by test [] = false
begins_by test (x ∷ xs) = test x

-- None of the first `k` bytes satisfies the test.
abbrev pub IsNoneBefore : (ℕ → Bool) → List ℕ → ℕ → Type 0
IsNoneBefore test bytes k = (j : ℕ) → j < k → test (slice_index bytes j) ≡ false
