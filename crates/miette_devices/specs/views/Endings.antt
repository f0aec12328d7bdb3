-- How programs end.
use Rattle.std.specs.Prelude.{◌≡◌, ◌↔◌, ℕ, Bool, IsTrue, List, Option, OnOk}
use Rattle.std.specs.Io.KnownBytes.{Appends}
use Rattle.miette_devices.specs.declared.fault.ProgramExit.{ProgramExit}
use Rattle.miette_devices.specs.declared.fault.ProgramError.{ProgramError}
use Rattle.miette_devices.specs.declared.fault.ProgramError.TheVariants.{Usage, Read, Write}
use Rattle.miette_devices.specs.declared.fault.Program.{Program}
use Rattle.miette_devices.specs.rules.Faults.{error_line, status_of}

-- The program failed with this error: it returns the error's exit code, and if the message was written, the stream has
-- what it had, followed by the message.
pub record IsFailure (program : Program) (ending : ProgramExit) (old new : Option (List ℕ)) (fault : ProgramError)
    : Type 0 where
  pub status : ending.status ≡ status_of program fault
  pub row : OnOk ending.told (Appends old new (error_line program fault))

-- It is a usage error exactly if the arguments are invalid, and a read or write error exactly if the reader or writer
-- failed.
pub record IsFound (wrong : Type 0) (read_failed write_failed : Bool) (fault : ProgramError) : Type 0 where
  pub usage : (fault ≡ Usage) ↔ wrong
  pub read : IsTrue read_failed ↔ (fault ≡ Read)
  pub write : IsTrue write_failed ↔ (fault ≡ Write)
