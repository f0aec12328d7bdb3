-- What reading a line promises.
use Rattle.std.specs.Prelude.{◌≡◌, ◌⊎◌, ℕ, List, [], ◌∷◌, ◌++◌, Option, Some, None, Bool, true, false, take, ⊤}
use Rattle.std.specs.Io.KnownBytes.{Consumes, IsAtEnd, prepend_known}
use Rattle.miette_show_rows.specs.rules.Parts.{parts_of}
use Rattle.miette_show_rows.specs.rules.Rows.{has_end, last_row}
use Rattle.miette_show_rows.specs.views.RowState.{RowState}

-- The bytes that remain to be read, if the reader tells them.
abbrev pub left_of : {R : Type 0} → (R → Option (List ℕ)) → RowState R → Option (List ℕ)
left_of remaining it = prepend_known it.pending (remaining it.inner)

-- A line with its LF. Only the last line may have none.
abbrev pub IsWholeRow : List ℕ → Type 0
IsWholeRow row = (text : List ℕ) × (has_end text ≡ false) × (row ≡ text ++ 10 ∷ [])

abbrev pub IsNextRow : Option (List ℕ) → Option (List ℕ) → List ℕ → Type 0
IsNextRow old new row = Consumes old new row × (IsWholeRow row ⊎ ((has_end row ≡ false) × IsAtEnd new))

-- The start of the pending bytes is taken: up to the first LF, or all of them.
abbrev pub IsTaken : List ℕ → List ℕ → List ℕ → List ℕ → Bool → Type 0
IsTaken pending left old new true = (text : List ℕ) × (has_end text ≡ false) × (pending ≡ text ++ 10 ∷ left)
    × (new ≡ old ++ (text ++ 10 ∷ []))
IsTaken pending left old new false = (has_end pending ≡ false) × (left ≡ []) × (new ≡ old ++ pending)

-- The first `size` bytes are a line with its LF. Without a size there is no LF.
abbrev pub IsRowEnd : List ℕ → Option ℕ → Type 0
IsRowEnd pending None = has_end pending ≡ false
IsRowEnd pending (Some size) =
    (text : List ℕ) × (has_end text ≡ false) × (take size pending ≡ text ++ 10 ∷ [])

-- The next part, and what remains after it. The part is empty only at the end.
abbrev pub IsNextPart : Option (List ℕ) → Option (List ℕ) → List ℕ → Type 0
IsNextPart None new part = ⊤
IsNextPart (Some xs) None part = ⊥
IsNextPart (Some xs) (Some ys) part = (parts_of xs ≡ last_row part ++ parts_of ys) × (part ≡ [] → ys ≡ [])
