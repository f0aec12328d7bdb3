-- Output of the server for a given input.
use Rattle.std.specs.Prelude.{ℕ, zero, suc, ◌+◌, List, [], ◌++◌, length}
use Rattle.std.specs.Option.{option_map_or}
use Rattle.serde_json.specs.Written.{compact_text}
use Rattle.miette_language_server.specs.rules.Frames.{Frame, first_frame, framed}
use Rattle.miette_language_server.specs.rules.Session.{Effect, SessionState, ended, first_state, nothing, step, written}

-- all output, and the exit code
pub record Service : Type 0 where
  pub output : List ℕ
  pub status : ℕ

-- the input ended, or a frame was broken
abbrev pub broken_off : Service
broken_off = record { output = []; status = 2 }

-- the output for one message, then the rest; nothing more if the server exits
abbrev pub served_with : Effect → Service → Service
served_with nothing rest = rest
served_with (written d) rest = record { output = framed (compact_text d) ++ rest.output; status = rest.status }
served_with (ended status) rest = record { output = []; status = status }

-- the same for the frames in these bytes; the number limits how many
abbrev pub served_from : ℕ → SessionState → List ℕ → Service
served_from zero s bytes = broken_off
served_from (suc n) s bytes =
    option_map_or (λ (f : Frame). served_with (step s f.body).outcome (served_from n (step s f.body).state f.rest))
    (first_frame bytes) broken_off

-- the same for all bytes; each frame has at least one byte
abbrev pub served : ℕ → List ℕ → Service
served width bytes = served_from (length bytes + 1) (first_state width) bytes
