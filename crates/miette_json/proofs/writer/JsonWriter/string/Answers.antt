use Rattle.std.proofs.Common.{string_bytes}
use Rattle.miette_json.proofs.WriterSteps.{string_put}
use Rattle.miette_json.proofs.writer.JsonWriter.string.Goals as goal

pub returns : goal.returns
returns c =
    string_put (string_bytes c.self.inside.text) c.self.inside.is_comma_due c.args.self.now c.args.text.now
    (string_bytes c.push_comma.new.out) (string_bytes c.push_json_string.new.out) c.self.view_is
    c.in_ok-push_comma.ensures c.in_ok-push_json_string.ensures
