-- What errors say about edits.
use Rattle.std.specs.Prelude.{ℕ, ◌≡◌, ◌≢◌, List, Some, true, false, slice_get, take}
use Rattle.std.specs.List.{list_any}
use Rattle.miette_fixes.specs.rules.Edits.{Replacement, ends_after, is_after, overlap}

-- at this index is the first edit that ends after the end of a source of `n` bytes
pub record EndsOutside (n : ℕ) (edits : List Replacement) (index : ℕ) : Type 0 where
  pub edit : Replacement
  pub at : slice_get edits index ≡ Some edit
  pub outside : ends_after n edit ≡ true
  pub before : list_any (ends_after n) (take index edits) ≡ false

-- at these indices are two edits that overlap, and the second doesn't sort before the first
pub record AreOverlapping (edits : List Replacement) (first second : ℕ) : Type 0 where
  pub edit : Replacement
  pub next : Replacement
  pub at_first : slice_get edits first ≡ Some edit
  pub at_second : slice_get edits second ≡ Some next
  pub different : first ≢ second
  pub order : is_after edit next ≡ false
  pub meet : overlap edit next ≡ true
