use Rattle.std.proofs.Common.{Some, None, refl, subst, sym}
use Rattle.miette_language_server.specs.rules.Session.{SessionState, first_state}
use Rattle.miette_language_server.specs.views.Served.{GoesOn, IsTurn, moment}
use Rattle.miette_language_server.proofs.Beginnings.{on_err}
use Rattle.miette_language_server.proofs.Begun.{begun_none, begun_whole, goes_still}
use Rattle.miette_language_server.proofs.Clients.{still_open}
use Rattle.miette_language_server.proofs.Turns.{served_whole}
use Rattle.miette_language_server.proofs.serve.serve.Goals as goal

pub loop-init : goal.loop-init
loop-init g c =
    let first = moment (first_state c.args.width) (g.R.Read.remaining c.args.client.now.reader.inner)
    (g.W.Write.contents c.args.client.now.writer.inner) in
    record {
      goes = subst (λ (s : SessionState). GoesOn first (moment s first.input first.output)) (sym c.new-session.ensures)
          (goes_still first);
      ready = c.requires;
    }

pub loop-preserved : goal.loop-preserved
loop-preserved g c =
    let a = moment c.loop.session (g.R.Read.remaining c.loop.client.reader.inner)
    (g.W.Write.contents c.loop.client.writer.inner) in
    let b = moment c.turn.new.session (g.R.Read.remaining c.turn.new.client.reader.inner)
    (g.W.Write.contents c.turn.new.client.writer.inner) in
    let more : IsTurn a b None = subst (IsTurn a b) c.in-None.is c.in_ok-told.ensures.served in
    let told = c.in_ok-told.ensures in
    record {
      goes = record {
        served = λ v status h. c.loop.invariant.goes.served v status (more.served v status h);
        begun = λ v h. c.loop.invariant.goes.begun v (more.begun v h);
      };
      ready = still_open c.turn.new.client c.in_ok-told.told told.read_failed told.write_failed told.sent;
    }

pub returns-in-Some-clause-served : goal.returns-in-Some-clause-served
returns-in-Some-clause-served g c =
    let a = moment c.loop.session (g.R.Read.remaining c.loop.client.reader.inner)
    (g.W.Write.contents c.loop.client.writer.inner) in
    let b = moment c.turn.new.session (g.R.Read.remaining c.turn.new.client.reader.inner)
    (g.W.Write.contents c.turn.new.client.writer.inner) in
    let status = c.in-Some.status in
    let done : IsTurn a b (Some status) = subst (IsTurn a b) c.in-Some.is c.in_ok-told.ensures.served in
    served_whole c.args.width (g.R.Read.remaining c.args.client.now.reader.inner)
    (g.W.Write.contents c.args.client.now.writer.inner) b.output status
    (c.loop.invariant.goes.served b.output status done)

pub returns-in_err-told-clause-begun : goal.returns-in_err-told-clause-begun
returns-in_err-told-clause-begun g c =
    let new = g.W.Write.contents c.turn.new.client.writer.inner in
    on_err _ _ (begun_whole c.args.width (g.R.Read.remaining c.args.client.now.reader.inner)
    (g.W.Write.contents c.args.client.now.writer.inner) new
    (c.loop.invariant.goes.begun new c.in_err-told.ensures.begun))

pub returns-clause-begun : goal.returns-clause-begun
returns-clause-begun g c =
    let new = g.W.Write.contents c.loop.client.writer.inner in
    begun_whole c.args.width (g.R.Read.remaining c.args.client.now.reader.inner)
    (g.W.Write.contents c.args.client.now.writer.inner) new
    (c.loop.invariant.goes.begun new (begun_none c.loop.session _ new new refl))
