-- State of a client's connection.
use Rattle.std.specs.Prelude.{◌≡◌, Bool, false, true}
use Rattle.miette_devices.specs.views.DeviceState.{DeviceState}

-- the writer, whether one of its calls failed, and whether all it took was flushed
pub record WriterState (W : Type 0) : Type 0 where
  pub inner : W
  pub failed : Bool
  pub is_sent : Bool

-- the reader of what the client sends, and the writer to it
pub record ClientState (R W : Type 0) : Type 0 where
  pub reader : DeviceState R
  pub writer : WriterState W

-- neither stream failed, and everything written was flushed
abbrev pub IsOpen : {R W : Type 0} → ClientState R W → Type 0
IsOpen client = (client.reader.failed ≡ false) × (client.writer.failed ≡ false) × (client.writer.is_sent ≡ true)
