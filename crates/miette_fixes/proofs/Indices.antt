-- An index of an edit is at most the number of edits.
use Rattle.std.proofs.Common.{ℕ, ◌≤◌, List, arith, length}
use Rattle.std.specs.Prelude.{not}
use Rattle.std.specs.List.{position_or_len}
use Rattle.std.proofs.lemmas.List.Sums.{prefix_len-le-length}
use Rattle.miette_fixes.specs.rules.Applying.{index_from}
use Rattle.miette_fixes.specs.rules.Edits.{Replacement, same_span}

pub index_at_most : (edit : Replacement) (edits : List Replacement) → index_from 0 edit edits ≤ length edits
index_at_most edit edits =
    let most : position_or_len (same_span edit) edits ≤ length edits =
    prefix_len-le-length (λ other. not (same_span edit other)) edits in
    omega (arith, most)
