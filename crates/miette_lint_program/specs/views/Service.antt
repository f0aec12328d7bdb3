-- Output of `lint --lsp`, for contracts.
use Rattle.std.specs.Prelude.{◌≡◌, ◌⊎◌, ◌↔◌, ℕ, Bool, IsTrue, List, Option, IfSome}
use Rattle.std.specs.Io.KnownBytes.{Appends}
use Rattle.miette_devices.specs.declared.fault.ProgramError.{ProgramError}
use Rattle.miette_devices.specs.declared.fault.ProgramError.TheVariants.{Memory, Read, Write}
use Rattle.miette_devices.specs.views.Device.{TakesBeginning}
use Rattle.miette_language_server.specs.rules.Serving.{served}

-- the reader had these bytes, and the writer had `old` and has `new`: output and exit code are those of a language
-- server for this input
abbrev pub IsService : ℕ → Option (List ℕ) → Option (List ℕ) → Option (List ℕ) → ℕ → Type 0
IsService width read old new status =
    IfSome read (λ bytes. Appends old new (served width bytes).output × (status ≡ (served width bytes).status))

-- the writer got a beginning of that output
abbrev pub BeginsService : ℕ → Option (List ℕ) → Option (List ℕ) → Option (List ℕ) → Type 0
BeginsService width read old new = IfSome read (λ bytes. TakesBeginning old new (served width bytes).output)

-- the error is `Read` or `Write` exactly if the reader or writer failed; if neither did, it is `Memory`
pub record IsServerFault (read_failed write_failed : Bool) (fault : ProgramError) : Type 0 where
  pub read : IsTrue read_failed ↔ (fault ≡ Read)
  pub write : IsTrue write_failed ↔ (fault ≡ Write)
  pub others : (fault ≡ Memory) ⊎ (fault ≡ Read) ⊎ (fault ≡ Write)
