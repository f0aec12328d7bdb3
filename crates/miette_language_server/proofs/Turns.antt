-- What is written for what is left, message by message.
use Rattle.std.proofs.Common.{◌≡◌, ℕ, zero, suc, ◌+◌, ◌<◌, List, Option, Some, None, IfSome, refl, sym, ap, ◌∙◌, arith}
use Rattle.std.proofs.Common.{length, subst, Vec}
use Rattle.std.specs.declared.alloc.Global.{Global}
use Rattle.std.specs.Option.{option_map_or}
use Rattle.std.specs.Io.KnownBytes.{Appends}
use Rattle.std.proofs.KnownBytes.{Appends-nil, Appends-trans}
use Rattle.serde_json.specs.View.{view}
use Rattle.serde_json.specs.Written.{compact_text}
use Rattle.serde_json.specs.declared.value.Value.{Value}
use Rattle.miette_language_server.specs.declared.session.ServerOutcome.{ServerOutcome}
use Rattle.miette_language_server.specs.declared.session.ServerOutcome.TheVariants.{Ended, Nothing, Written}
use Rattle.miette_language_server.specs.rules.Frames.{Frame, first_frame, framed}
use Rattle.miette_language_server.specs.rules.Serving.{Service, broken_off, served, served_from, served_with}
use Rattle.miette_language_server.specs.rules.Session.{Effect, SessionState, first_state, step}
use Rattle.miette_language_server.specs.views.Answered.{IsFirstFrame, IsStep, outcome_of}
use Rattle.miette_language_server.specs.views.Served.{GivesService, IsServed}
use Rattle.miette_language_server.proofs.Rests.{shorter}

-- of a frame
abbrev frame_served : ℕ → SessionState → Frame → Service
frame_served n s f = served_with (step s f.body).outcome (served_from n (step s f.body).state f.rest)

abbrev framed_served : ℕ → SessionState → Option Frame → Service
framed_served n s o = option_map_or (frame_served n s) o broken_off

-- ---- no frame

pub served_none : (s : SessionState) (old new w : Option (List ℕ)) → IsFirstFrame old new None → IsServed s old w w 2
served_none s None new w h = tt
served_none s (Some bytes) new w h = λ n lt. none n lt
  where
    none : (n : ℕ) → length bytes < n → GivesService w w 2 (served_from n s bytes)
    none zero lt = absurd (omega (arith, lt))
    none (suc n) lt = subst (GivesService w w 2) (sym (ap (framed_served n s) h)) (Appends-nil w, refl)

-- ---- a frame

pub turn_served : (n : ℕ) (s t : SessionState) (outcome : ServerOutcome) (bytes body rest : List ℕ)
    → first_frame bytes ≡ Some (record { body = body; rest = rest }) → IsStep (step s body) t outcome
    → served_from (suc n) s bytes ≡ served_with (outcome_of outcome) (served_from n t rest)
turn_served n s t outcome bytes body rest h is = ap (framed_served n s) h
    ∙ ap (λ (e : Effect). served_with e (served_from n (step s body).state rest)) (sym is.1)
    ∙ ap (λ (u : SessionState). served_with (outcome_of outcome) (served_from n u rest)) (sym is.0)

pub served_ended : (s t : SessionState) (old new w : Option (List ℕ)) (body : Vec ℕ Global) (status : ℕ)
    → IsFirstFrame old new (Some body) → IsStep (step s body.items) t (Ended status) → IsServed s old w w status
served_ended s t None new w body status h is = tt
served_ended s t (Some bytes) None w body status h is = absurd h
served_ended s t (Some bytes) (Some rest) w body status h is = λ n lt. ending n lt
  where
    ending : (n : ℕ) → length bytes < n → GivesService w w status (served_from n s bytes)
    ending zero lt = absurd (omega (arith, lt))
    ending (suc n) lt = subst (GivesService w w status) (sym (turn_served n s t (Ended status) bytes body.items rest h
        is))
        (Appends-nil w, refl)

pub served_on : (s t : SessionState) (old new w v : Option (List ℕ)) (body : Vec ℕ Global) (status : ℕ)
    → IsFirstFrame old new (Some body) → IsStep (step s body.items) t Nothing → IsServed t new w v status
    → IsServed s old w v status
served_on s t None new w v body status h is more = tt
served_on s t (Some bytes) None w v body status h is more = absurd h
served_on s t (Some bytes) (Some rest) w v body status h is more = λ n lt. on n lt
  where
    on : (n : ℕ) → length bytes < n → GivesService w v status (served_from n s bytes)
    on zero lt = absurd (omega (arith, lt))
    on (suc n) lt = subst (GivesService w v status) (sym (turn_served n s t Nothing bytes body.items rest h is))
        (more n (omega (arith, lt, shorter bytes (record { body = body.items; rest = rest }) h)))

pub served_more : (s t : SessionState) (old new w u v : Option (List ℕ)) (body : Vec ℕ Global) (value : Value)
    (status : ℕ)
    → IsFirstFrame old new (Some body) → IsStep (step s body.items) t (Written value)
    → Appends w u (framed (compact_text (view value))) → IsServed t new u v status → IsServed s old w v status
served_more s t None new w u v body value status h is put more = tt
served_more s t (Some bytes) None w u v body value status h is put more = absurd h
served_more s t (Some bytes) (Some rest) w u v body value status h is put more = λ n lt. on n lt
  where
    on : (n : ℕ) → length bytes < n → GivesService w v status (served_from n s bytes)
    on zero lt = absurd (omega (arith, lt))
    on (suc n) lt =
        let rest_of : GivesService u v status (served_from n t rest) =
        more n (omega (arith, lt, shorter bytes (record { body = body.items; rest = rest }) h))
        in
        subst (GivesService w v status) (sym (turn_served n s t (Written value) bytes body.items rest h is)) (
          Appends-trans w u v (framed (compact_text (view value))) (served_from n t rest).output put rest_of.0,
          rest_of.1,
        )

-- ---- all of it

pub served_whole : (width : ℕ) (old w v : Option (List ℕ)) (status : ℕ) → IsServed (first_state width) old w v status
    → IfSome old (λ bytes. Appends w v (served width bytes).output × (status ≡ (served width bytes).status))
served_whole width None w v status h = tt
served_whole width (Some bytes) w v status h = h (length bytes + 1) (omega arith)
