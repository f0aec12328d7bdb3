use Rattle.std.proofs.Common.{rules}
use Rattle.serde_json.specs.View.{view}
use Rattle.miette_language_server.proofs.Bodied.{is_message, no_message}
use Rattle.miette_language_server.proofs.session.message_of.Goals as goal

pub returns-in-Ok : goal.returns-in-Ok
returns-in-Ok c = is_message c.args.body.now (view c.in-Ok.value) c.in-Ok.ensures.ok.0 c.in-Ok.ensures.ok.1

pub returns-in-Err-2 : goal.returns-in-Err-2
returns-in-Err-2 c = no_message c.args.body.now (c.in-Err-2.ensures.err (search rules))
