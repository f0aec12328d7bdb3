-- Bytes that were read and steps of the server, for contracts.
use Rattle.std.specs.Prelude.{◌≡◌, ℕ, ◌<◌, List, [], ◌∷◌, Option, Some, None, length}
use Rattle.std.specs.Prelude.{Vec}
use Rattle.std.specs.declared.alloc.Global.{Global}
use Rattle.std.specs.Io.KnownBytes.{Consumes, IsAtEnd}
use Rattle.serde_json.specs.View.{view}
use Rattle.miette_language_server.specs.declared.session.ServerOutcome.{ServerOutcome}
use Rattle.miette_language_server.specs.declared.session.ServerOutcome.TheVariants.{Ended, Nothing, Written}
use Rattle.miette_language_server.specs.rules.Frames.{first_frame, length_from}
use Rattle.miette_language_server.specs.rules.Session.{Effect, SessionState, Reaction, ended, nothing, written}

-- the byte that a reader gave, which had `old` and has `new`; none at the end of input
abbrev pub IsNextByte : Option (List ℕ) → Option (List ℕ) → Option ℕ → Type 0
IsNextByte old new (Some b) = Consumes old new (b ∷ [])
IsNextByte old new None = IsAtEnd old

-- a header was read, after these bytes of a line and this known length
abbrev pub IsHeaderFrom : Option ℕ → List ℕ → Option (List ℕ) → Option (List ℕ) → Option ℕ → Type 0
IsHeaderFrom known row None new size = Unit {0}
IsHeaderFrom known row (Some bytes) new None = length_from known row bytes ≡ None
IsHeaderFrom known row (Some bytes) None (Some n) = ⊥
IsHeaderFrom known row (Some bytes) (Some rest) (Some n) = length_from known row bytes ≡ Some (n, rest)

abbrev pub IsHeader : Option (List ℕ) → Option (List ℕ) → Option ℕ → Type 0
IsHeader old new size = IsHeaderFrom None [] old new size

-- `n` bytes were read, or the input ended early
abbrev pub IsBody : Option (List ℕ) → Option (List ℕ) → ℕ → Option (Vec ℕ Global) → Type 0
IsBody old new n (Some body) = Consumes old new body.items × (length body.items ≡ n)
IsBody None new n None = Unit {0}
IsBody (Some bytes) new n None = length bytes < n

-- a frame was read, or there is none
abbrev pub IsFirstFrame : Option (List ℕ) → Option (List ℕ) → Option (Vec ℕ Global) → Type 0
IsFirstFrame None new body = Unit {0}
IsFirstFrame (Some bytes) new None = first_frame bytes ≡ None
IsFirstFrame (Some bytes) None (Some body) = ⊥
IsFirstFrame (Some bytes) (Some rest) (Some body) = first_frame bytes ≡ Some (record { body = body.items; rest = rest })

-- an outcome, as the rules represent it
abbrev pub outcome_of : ServerOutcome → Effect
outcome_of Nothing = nothing
outcome_of (Written value) = written (view value)
outcome_of (Ended status) = ended status

-- the state and the outcome of a step
abbrev pub IsStep : Reaction → SessionState → ServerOutcome → Type 0
IsStep it state outcome = (state ≡ it.state) × (outcome_of outcome ≡ it.outcome)
