use Rattle.std.proofs.Common.{string_bytes}
use Rattle.miette_json.proofs.WriterSteps.{closed_put}
use Rattle.miette_json.proofs.writer.JsonWriter.end_list.Goals as goal

pub returns : goal.returns
returns c =
    closed_put (string_bytes c.self.inside.text) c.self.inside.is_comma_due c.args.self.now 93
    (string_bytes c.push_str.new.self) c.self.view_is c.in_ok-push_str.ensures.bytes
