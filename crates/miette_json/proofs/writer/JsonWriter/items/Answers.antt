use Rattle.std.proofs.Common.{ap, string_bytes, ◌++◌, ◌∙◌}
use Rattle.miette_json.proofs.WriterSteps.{items_put}
use Rattle.miette_json.proofs.writer.JsonWriter.items.Goals as goal

pub returns : goal.returns
returns c =
    items_put (string_bytes c.self.inside.text) c.self.inside.is_comma_due c.args.self.now
    (string_bytes c.items.inside.text) c.items.inside.is_comma_due c.args.items.now (string_bytes c.push_str.new.self)
    c.self.view_is c.items.view_is
    (c.in_ok-push_str.ensures.bytes ∙ ap (λ l. string_bytes c.self.inside.text ++ l) c.as_str.ensures.value)
