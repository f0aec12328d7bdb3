-- What a server has done so far, for contracts.
use Rattle.std.specs.Prelude.{◌≡◌, ℕ, ◌<◌, List, Option, Some, None, length}
use Rattle.std.specs.Io.KnownBytes.{Appends}
use Rattle.miette_devices.specs.views.Device.{TakesBeginning}
use Rattle.miette_language_server.specs.rules.Serving.{Service, served_from}
use Rattle.miette_language_server.specs.rules.Session.{SessionState}

-- the writer got all output of a service, which ended with this exit code
abbrev pub GivesService : Option (List ℕ) → Option (List ℕ) → ℕ → Service → Type 0
GivesService w v status it = Appends w v it.output × (status ≡ it.status)

-- the same for the service of the remaining input, in a state
abbrev pub IsServed : SessionState → Option (List ℕ) → Option (List ℕ) → Option (List ℕ) → ℕ → Type 0
IsServed s None w v status = Unit {0}
IsServed s (Some bytes) w v status = (n : ℕ) → length bytes < n → GivesService w v status (served_from n s bytes)

-- the writer got a beginning of a service's output
abbrev pub BeginsOutput : Option (List ℕ) → Option (List ℕ) → Service → Type 0
BeginsOutput w v it = TakesBeginning w v it.output

-- the same for the service of the remaining input, in a state
abbrev pub IsServiceBegun : SessionState → Option (List ℕ) → Option (List ℕ) → Option (List ℕ) → Type 0
IsServiceBegun s None w v = Unit {0}
IsServiceBegun s (Some bytes) w v = (n : ℕ) → length bytes < n → BeginsOutput w v (served_from n s bytes)

-- a state, the remaining input, and the bytes that the writer has
pub record Moment : Type 0 where
  pub state : SessionState
  pub input : Option (List ℕ)
  pub output : Option (List ℕ)

abbrev pub moment : SessionState → Option (List ℕ) → Option (List ℕ) → Moment
moment state input output = record { state = state; input = input; output = output }

-- the service from the second moment on is the rest of that from the first on, also if it is only begun
pub record GoesOn (a b : Moment) : Type 0 where
  pub served : (v : Option (List ℕ)) (status : ℕ) → IsServed b.state b.input b.output v status
      → IsServed a.state a.input a.output v status
  pub begun : (v : Option (List ℕ)) → IsServiceBegun b.state b.input b.output v
      → IsServiceBegun a.state a.input a.output v

-- one turn of the server: it goes on, or it ends with an exit code
abbrev pub IsTurn : Moment → Moment → Option ℕ → Type 0
IsTurn a b None = GoesOn a b
IsTurn a b (Some status) = IsServed a.state a.input a.output b.output status
