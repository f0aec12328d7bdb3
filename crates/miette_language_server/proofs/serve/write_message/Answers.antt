use Rattle.std.proofs.Common.{◌≡◌, OnErr, subst, rules}
use Rattle.serde_json.specs.View.{view}
use Rattle.serde_json.specs.Written.{compact_text}
use Rattle.miette_devices.specs.views.Device.{TakesBeginning}
use Rattle.miette_language_server.specs.rules.Frames.{framed}
use Rattle.miette_language_server.proofs.Beginnings.{on_err, takes_none}
use Rattle.miette_language_server.proofs.serve.write_message.Goals as goal

pub returns-clause-err : goal.returns-clause-err
returns-clause-err g c =
    let old = g.W.Write.contents c.args.client.now.writer.inner in
    let new = g.W.Write.contents c.write_frame.new.client.writer.inner in
    let is : c.as_bytes.result.now ≡ compact_text (view c.args.message.now) = search rules in
    subst (λ bs. OnErr c.write_frame.result (TakesBeginning old new (framed bs))) is c.write_frame.ensures.err

pub returns-in_err-text-clause-err : goal.returns-in_err-text-clause-err
returns-in_err-text-clause-err g c = on_err _ _ (takes_none _ _)
