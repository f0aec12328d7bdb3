-- What was written at a fault is a beginning of what is written for all.
use Rattle.std.proofs.Common.{◌≡◌, ℕ, zero, suc, ◌+◌, ◌<◌, List, Option, Some, None, IfSome, sym}
use Rattle.std.proofs.Common.{arith, length, subst, Vec}
use Rattle.std.specs.declared.alloc.Global.{Global}
use Rattle.std.specs.Io.KnownBytes.{Appends}
use Rattle.serde_json.specs.View.{view}
use Rattle.serde_json.specs.Written.{compact_text}
use Rattle.serde_json.specs.declared.value.Value.{Value}
use Rattle.miette_devices.specs.views.Device.{TakesBeginning}
use Rattle.miette_language_server.specs.declared.session.ServerOutcome.TheVariants.{Nothing, Written}
use Rattle.miette_language_server.specs.rules.Frames.{framed}
use Rattle.miette_language_server.specs.rules.Serving.{served, served_from}
use Rattle.miette_language_server.specs.rules.Session.{SessionState, first_state, step}
use Rattle.miette_language_server.specs.views.Answered.{IsFirstFrame, IsStep}
use Rattle.miette_language_server.specs.views.Served.{BeginsOutput, GoesOn, IsServiceBegun, Moment}
use Rattle.miette_language_server.proofs.Beginnings.{takes_more, takes_none, takes_part}
use Rattle.miette_language_server.proofs.Rests.{shorter}
use Rattle.miette_language_server.proofs.Turns.{turn_served}

-- ---- of a service

pub goes_still : (a : Moment) → GoesOn a a
goes_still a = record { served = λ v status h. h; begun = λ v h. h }

pub begun_none : (s : SessionState) (old w v : Option (List ℕ)) → v ≡ w → IsServiceBegun s old w v
begun_none s None w v e = tt
begun_none s (Some bytes) w v e =
    λ n lt. subst (λ (u : Option (List ℕ)). TakesBeginning w u (served_from n s bytes).output) (sym e)
    (takes_none w (served_from n s bytes).output)

pub begun_on : (s t : SessionState) (old new w v : Option (List ℕ)) (body : Vec ℕ Global)
    → IsFirstFrame old new (Some body) → IsStep (step s body.items) t Nothing → IsServiceBegun t new w v
    → IsServiceBegun s old w v
begun_on s t None new w v body h is more = tt
begun_on s t (Some bytes) None w v body h is more = absurd h
begun_on s t (Some bytes) (Some rest) w v body h is more = λ n lt. on n lt
  where
    on : (n : ℕ) → length bytes < n → BeginsOutput w v (served_from n s bytes)
    on zero lt = absurd (omega (arith, lt))
    on (suc n) lt =
        subst (BeginsOutput w v) (sym (turn_served n s t Nothing bytes body.items rest h is))
        (more n (omega (arith, lt, shorter bytes (record { body = body.items; rest = rest }) h)))

pub begun_more : (s t : SessionState) (old new w u v : Option (List ℕ)) (body : Vec ℕ Global) (value : Value)
    → IsFirstFrame old new (Some body) → IsStep (step s body.items) t (Written value)
    → Appends w u (framed (compact_text (view value))) → IsServiceBegun t new u v → IsServiceBegun s old w v
begun_more s t None new w u v body value h is put more = tt
begun_more s t (Some bytes) None w u v body value h is put more = absurd h
begun_more s t (Some bytes) (Some rest) w u v body value h is put more = λ n lt. on n lt
  where
    on : (n : ℕ) → length bytes < n → BeginsOutput w v (served_from n s bytes)
    on zero lt = absurd (omega (arith, lt))
    on (suc n) lt =
        subst (BeginsOutput w v) (sym (turn_served n s t (Written value) bytes body.items rest h is))
        (takes_more w u v (framed (compact_text (view value))) (served_from n t rest).output put
        (more n (omega (arith, lt, shorter bytes (record { body = body.items; rest = rest }) h))))

-- a message of which a part was written
pub begun_part : (s t : SessionState) (old new w v : Option (List ℕ)) (body : Vec ℕ Global) (value : Value)
    → IsFirstFrame old new (Some body) → IsStep (step s body.items) t (Written value)
    → TakesBeginning w v (framed (compact_text (view value))) → IsServiceBegun s old w v
begun_part s t None new w v body value h is part = tt
begun_part s t (Some bytes) None w v body value h is part = absurd h
begun_part s t (Some bytes) (Some rest) w v body value h is part = λ n lt. on n lt
  where
    on : (n : ℕ) → length bytes < n → BeginsOutput w v (served_from n s bytes)
    on zero lt = absurd (omega (arith, lt))
    on (suc n) lt =
        subst (BeginsOutput w v) (sym (turn_served n s t (Written value) bytes body.items rest h is))
        (takes_part w v (framed (compact_text (view value))) (served_from n t rest).output part)

-- ---- all of it

pub begun_whole : (width : ℕ) (old w v : Option (List ℕ)) → IsServiceBegun (first_state width) old w v
    → IfSome old (λ bytes. TakesBeginning w v (served width bytes).output)
begun_whole width None w v h = tt
begun_whole width (Some bytes) w v h = h (length bytes + 1) (omega arith)
