use Rattle.miette_language_server.proofs.Beginnings.{takes_written}
use Rattle.miette_language_server.proofs.client.Client.put_part.Goals as goal

pub returns-in_default-clause-err : goal.returns-in_default-clause-err
returns-in_default-clause-err g c =
    rw (← c.self.view_is) (takes_written _ _ c.write.result c.args.bytes.now c.write.ensures.bytes)
