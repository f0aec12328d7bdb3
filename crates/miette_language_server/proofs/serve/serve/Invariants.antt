use Rattle.miette_language_server.specs.rules.Session.{first_state}
use Rattle.miette_language_server.specs.views.ClientState.{IsOpen}
use Rattle.miette_language_server.specs.views.Served.{GoesOn, moment}
use Rattle.miette_language_server.proofs.serve.serve.Given as goal

-- the service from the beginning on is that from here on
abbrev pub invariant-loop : goal.invariant-loop
invariant-loop g l = record {
  goes : GoesOn
      (moment (first_state l.width) (g.R.Read.remaining l.initial.client.reader.inner)
      (g.W.Write.contents l.initial.client.writer.inner))
      (moment l.session (g.R.Read.remaining l.client.reader.inner) (g.W.Write.contents l.client.writer.inner));
  ready : IsOpen l.client;
}
