use Rattle.std.proofs.Common.{string_bytes}
use Rattle.miette_json.proofs.WriterSteps.{text_put}
use Rattle.miette_json.proofs.writer.JsonWriter.value_text.Goals as goal

pub returns : goal.returns
returns c =
    text_put (string_bytes c.self.inside.text) c.self.inside.is_comma_due c.args.self.now c.args.text.now
    (string_bytes c.push_after_comma.new.out) c.self.view_is c.in_ok-push_after_comma.ensures
