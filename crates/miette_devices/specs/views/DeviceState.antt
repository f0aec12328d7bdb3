-- What a `Device` represents.
use Rattle.std.specs.Prelude.{Bool}

-- the reader or writer, and whether one of its calls failed
pub record DeviceState (D : Type 0) : Type 0 where
  pub inner : D
  pub failed : Bool
