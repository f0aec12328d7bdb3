-- A line reader as its callers see it.
use Rattle.std.specs.Prelude.{ℕ, List, Bool}

-- The reader, whether a call of it failed, and the bytes of later lines that are already read.
pub record RowState (R : Type 0) : Type 0 where
  pub inner : R
  pub failed : Bool
  pub pending : List ℕ
