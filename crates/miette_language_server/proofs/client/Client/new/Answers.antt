use Rattle.std.proofs.Common.{refl}
use Rattle.miette_language_server.proofs.client.Client.new.Goals as goal

pub returns-clause-ready : goal.returns-clause-ready
returns-clause-ready g c = (c.new.ensures.sound, refl, refl)
