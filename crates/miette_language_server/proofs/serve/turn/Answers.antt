use Rattle.std.proofs.Common.{◌≡◌, ℕ, List, Option, Some, subst, sym}
use Rattle.std.specs.Io.KnownBytes.{Appends}
use Rattle.serde_json.specs.View.{view}
use Rattle.serde_json.specs.Written.{compact_text}
use Rattle.miette_devices.specs.views.Device.{TakesBeginning}
use Rattle.miette_language_server.specs.declared.session.ServerOutcome.{ServerOutcome}
use Rattle.miette_language_server.specs.declared.session.ServerOutcome.TheVariants.{Ended, Nothing, Written}
use Rattle.miette_language_server.specs.rules.Frames.{framed}
use Rattle.miette_language_server.specs.rules.Session.{SessionState, step}
use Rattle.miette_language_server.specs.views.Answered.{IsFirstFrame, IsStep}
use Rattle.miette_language_server.specs.views.Served.{IsServiceBegun, IsServed}
use Rattle.miette_language_server.proofs.Beginnings.{on_err}
use Rattle.miette_language_server.proofs.Begun.{begun_more, begun_none, begun_on, begun_part}
use Rattle.miette_language_server.proofs.Clients.{held, left, still_sound}
use Rattle.miette_language_server.proofs.Floatless.{ended_below, written_floatless}
use Rattle.miette_language_server.proofs.Turns.{served_ended, served_more, served_none, served_on}
use Rattle.miette_language_server.proofs.serve.turn.Goals as goal

-- a step on a body, and what it came to
step_done : (s t : SessionState) (slice body : List ℕ) (outcome told : ServerOutcome) → slice ≡ body
    → IsStep (step s slice) t outcome → outcome ≡ told → IsStep (step s body) t told
step_done s t slice body outcome told same done is =
    subst (λ (o : ServerOutcome). IsStep (step s body) t o) is (subst (λ bs. IsStep (step s bs) t outcome) same done)

pub returns-in_err-frame-clause-begun : goal.returns-in_err-frame-clause-begun
returns-in_err-frame-clause-begun g c =
    on_err _ _ (begun_none c.args.session.now _ _ _ (held g.W.Write.contents _ _ c.read_frame.ensures.writer))

pub returns-in-None-clause-served : goal.returns-in-None-clause-served
returns-in-None-clause-served g c =
    let remaining = g.R.Read.remaining in
    let contents = g.W.Write.contents in
    let asked = c.args.client.now in
    let read = c.read_frame.new.client in
    subst (λ (v : Option (List ℕ)). IsServed c.args.session.now (remaining asked.reader.inner)
    (contents asked.writer.inner) v 2) (sym (held contents _ _ c.read_frame.ensures.writer))
    (served_none c.args.session.now (remaining asked.reader.inner) (remaining read.reader.inner)
    (contents asked.writer.inner) (subst (IsFirstFrame (remaining asked.reader.inner) (remaining read.reader.inner))
    c.in-None.is c.in_ok-frame.ensures.frame))

pub returns-in_err-outcome-clause-begun : goal.returns-in_err-outcome-clause-begun
returns-in_err-outcome-clause-begun g c =
    on_err _ _ (begun_none c.args.session.now _ _ _ (held g.W.Write.contents _ _ c.read_frame.ensures.writer))

pub returns-in-Nothing-clause-served : goal.returns-in-Nothing-clause-served
returns-in-Nothing-clause-served g c =
    let old = g.R.Read.remaining c.args.client.now.reader.inner in
    let new = g.R.Read.remaining c.read_frame.new.client.reader.inner in
    let w = g.W.Write.contents c.args.client.now.writer.inner in
    let same = held g.W.Write.contents _ _ c.read_frame.ensures.writer in
    let s = c.args.session.now in
    let t = c.step.new.self in
    let body = c.in-Some.body in
    let first : IsFirstFrame old new (Some body) =
    subst (IsFirstFrame old new) c.in-Some.is c.in_ok-frame.ensures.frame in
    let is = step_done s t _ body.items _ Nothing c.as_slice.ensures.value c.in_ok-outcome.ensures c.in-Nothing.is in
    record {
      served = λ v status h. served_on s t old new w v body status first is
          (subst (λ (u : Option (List ℕ)). IsServed t new u v status) same h);
      begun = λ v h. begun_on s t old new w v body first is
          (subst (λ (u : Option (List ℕ)). IsServiceBegun t new u v) same h);
    }

pub returns-in-Ended-clause-served : goal.returns-in-Ended-clause-served
returns-in-Ended-clause-served g c =
    let old = g.R.Read.remaining c.args.client.now.reader.inner in
    let new = g.R.Read.remaining c.read_frame.new.client.reader.inner in
    let w = g.W.Write.contents c.args.client.now.writer.inner in
    let s = c.args.session.now in
    let t = c.step.new.self in
    let body = c.in-Some.body in
    let status = c.in-Ended.status in
    let first : IsFirstFrame old new (Some body) =
    subst (IsFirstFrame old new) c.in-Some.is c.in_ok-frame.ensures.frame in
    let is = step_done s t _ body.items _ (Ended status) c.as_slice.ensures.value c.in_ok-outcome.ensures
    c.in-Ended.is in
    subst (λ (v : Option (List ℕ)). IsServed s old w v status)
    (sym (held g.W.Write.contents _ _ c.read_frame.ensures.writer))
    (served_ended s t old new w body status first is)

pub returns-in-Ended-clause-status : goal.returns-in-Ended-clause-status
returns-in-Ended-clause-status g c =
    ended_below c.args.session.now c.step.new.self c.as_slice.result.now c.in_ok-outcome.outcome c.in-Ended.status
    c.in_ok-outcome.ensures c.in-Ended.is

pub write_message-requires-clause-whole : goal.write_message-requires-clause-whole
write_message-requires-clause-whole g c =
    let s = c.args.session.now in
    let t = c.step.new.self in
    written_floatless s t c.as_slice.result.now c.in_ok-outcome.outcome c.in-Written.message c.in_ok-outcome.ensures
    c.in-Written.is

pub write_message-requires-clause-sound : goal.write_message-requires-clause-sound
write_message-requires-clause-sound g c = still_sound _ _ c.read_frame.ensures.writer c.requires.1

pub returns-in_err-write_message-in-Written-clause-begun : goal.returns-in_err-write_message-in-Written-clause-begun
returns-in_err-write_message-in-Written-clause-begun g c =
    let remaining = g.R.Read.remaining in
    let contents = g.W.Write.contents in
    let asked = c.args.client.now in
    let read = c.read_frame.new.client in
    let told = c.write_message.new.client in
    let s = c.args.session.now in
    let t = c.step.new.self in
    let body = c.in-Some.body in
    let message = c.in-Written.message in
    let part = subst (λ (x : Option (List ℕ)). TakesBeginning x (contents told.writer.inner) (framed
    (compact_text (view message)))) (held contents _ _ c.read_frame.ensures.writer)
    c.in_err-write_message-in-Written.ensures.err in
    let first = subst (IsFirstFrame (remaining asked.reader.inner) (remaining read.reader.inner)) c.in-Some.is
    c.in_ok-frame.ensures.frame in
    let is = step_done s t _ body.items _ (Written message) c.as_slice.ensures.value c.in_ok-outcome.ensures
    c.in-Written.is in
    on_err _ _ (begun_part s t (remaining asked.reader.inner) (remaining read.reader.inner)
    (contents asked.writer.inner) (contents told.writer.inner) body message first is part)

pub returns-clause-served : goal.returns-clause-served
returns-clause-served g c =
    let remaining = g.R.Read.remaining in
    let contents = g.W.Write.contents in
    let asked = c.args.client.now in
    let told = c.write_message.new.client in
    let s = c.args.session.now in
    let t = c.step.new.self in
    let body = c.in-Some.body in
    let message = c.in-Written.message in
    let old = remaining asked.reader.inner in
    let new = remaining told.reader.inner in
    let w = contents asked.writer.inner in
    let u = contents told.writer.inner in
    let put = subst (λ (x : Option (List ℕ)). Appends x u (framed (compact_text (view message))))
    (held contents _ _ c.read_frame.ensures.writer) c.in_ok-write_message-in-Written.ensures.ok in
    let first : IsFirstFrame old new (Some body) =
    subst (λ (x : Option (List ℕ)). IsFirstFrame old x (Some body))
    (sym (left remaining _ _ c.write_message.ensures.reader))
    (subst (IsFirstFrame old _) c.in-Some.is c.in_ok-frame.ensures.frame) in
    let is = step_done s t _ body.items _ (Written message) c.as_slice.ensures.value c.in_ok-outcome.ensures
    c.in-Written.is in
    record {
      served = λ v status h. served_more s t old new w u v body message status first is put h;
      begun = λ v h. begun_more s t old new w u v body message first is put h;
    }
