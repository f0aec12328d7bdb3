use Rattle.std.proofs.Common.{string_bytes}
use Rattle.miette_json.proofs.WriterSteps.{key_put}
use Rattle.miette_json.proofs.writer.JsonWriter.key.Goals as goal

pub returns : goal.returns
returns c =
    key_put (string_bytes c.self.inside.text) c.self.inside.is_comma_due c.args.self.now c.args.key.now
    (string_bytes c.push_key.new.out) c.self.view_is c.in_ok-push_key.ensures
