use Rattle.std.proofs.Common.{◌≡◌, ◌++◌, OnErr, OnOk, length, subst, rules}
use Rattle.std.specs.Io.KnownBytes.{Appends}
use Rattle.miette_devices.specs.views.Device.{TakesBeginning}
use Rattle.miette_language_server.specs.rules.Frames.{header_text}
use Rattle.miette_language_server.proofs.Beginnings.{on_err, takes_none}
use Rattle.miette_language_server.proofs.frames.write_frame.Goals as goal

pub returns-clause-ok : goal.returns-clause-ok
returns-clause-ok g c =
    let old = g.W.Write.contents c.args.client.now.writer.inner in
    let new = g.W.Write.contents c.send.new.self.writer.inner in
    let is : c.as_bytes.result.now ≡ header_text (length c.args.body.now) = search rules in
    subst (λ bs. OnOk c.send.result (Appends old new (bs ++ c.args.body.now))) is c.send.ensures.ok

pub returns-clause-err : goal.returns-clause-err
returns-clause-err g c =
    let old = g.W.Write.contents c.args.client.now.writer.inner in
    let new = g.W.Write.contents c.send.new.self.writer.inner in
    let is : c.as_bytes.result.now ≡ header_text (length c.args.body.now) = search rules in
    subst (λ bs. OnErr c.send.result (TakesBeginning old new (bs ++ c.args.body.now))) is c.send.ensures.err

pub returns-in_err-header-clause-err : goal.returns-in_err-header-clause-err
returns-in_err-header-clause-err g c = on_err _ _ (takes_none _ _)
