-- Edits in order.
use Rattle.std.specs.Prelude.{ℕ, ◌≤◌, List, [], ◌∷◌, map}
use Rattle.miette_fixes.specs.rules.Edits.{Replacement, end_of}
use denote.Ref.{Bor}

-- the edits that references point to
abbrev pub edits_of : List (Bor Replacement) → List Replacement
edits_of edits = map (λ edit. edit.now) edits

-- sorted edits that don't overlap, from an offset on up to the end of `n` bytes
abbrev pub FitFrom : ℕ → ℕ → List Replacement → Type 0
FitFrom n at [] = at ≤ n
FitFrom n at (edit ∷ edits) = (at ≤ edit.span.offset) × (end_of edit ≤ n) × FitFrom n (end_of edit) edits
