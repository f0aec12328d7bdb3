use Rattle.std.proofs.Common.{arith, string_bytes}
use Rattle.miette_json.proofs.WriterSteps.{number_put}
use Rattle.miette_json.proofs.writer.JsonWriter.number.Goals as goal

pub returns : goal.returns
returns c =
    number_put (string_bytes c.self.inside.text) c.self.inside.is_comma_due c.args.self.now c.args.n
    (string_bytes c.push_comma.new.out) (string_bytes c.push_number.new.out) (omega arith) c.self.view_is
    c.in_ok-push_comma.ensures c.in_ok-push_number.ensures
