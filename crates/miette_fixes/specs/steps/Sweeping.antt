-- Passes over edits in order.
use Rattle.std.specs.Prelude.{List, [], ◌∷◌, Bool, true, ◌&&◌, not, nat_lt, Option, Some, None, if◌then◌else◌}
use Rattle.miette_fixes.specs.declared.error.FixError.{FixError}
use Rattle.miette_fixes.specs.rules.Applying.{overlap_error}
use Rattle.miette_fixes.specs.rules.Edits.{Replacement, end_of, is_after}

-- no edit sorts after the next one
abbrev pub ascends_after : Replacement → List Replacement → Bool
ascends_after before [] = true
ascends_after before (edit ∷ edits) = not (is_after before edit) && ascends_after edit edits

abbrev pub ascends : List Replacement → Bool
ascends [] = true
ascends (edit ∷ edits) = ascends_after edit edits

-- the error for the first edit that ends after the next one begins
abbrev pub crossing_after : List Replacement → Replacement → List Replacement → Option FixError
crossing_after edits edit [] = None
crossing_after edits edit (next ∷ sorted) =
    if nat_lt next.span.offset (end_of edit) then Some (overlap_error edits edit next)
    else crossing_after edits next sorted

abbrev pub crossing : List Replacement → List Replacement → Option FixError
crossing edits [] = None
crossing edits (edit ∷ sorted) = crossing_after edits edit sorted
