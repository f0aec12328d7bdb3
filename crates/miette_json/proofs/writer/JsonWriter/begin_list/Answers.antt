use Rattle.std.proofs.Common.{string_bytes}
use Rattle.miette_json.proofs.WriterSteps.{opened_put}
use Rattle.miette_json.proofs.writer.JsonWriter.begin_list.Goals as goal

pub returns : goal.returns
returns c =
    opened_put (string_bytes c.self.inside.text) c.self.inside.is_comma_due c.args.self.now 91
    (string_bytes c.push_after_comma.new.out) c.self.view_is c.in_ok-push_after_comma.ensures
