use Rattle.std.proofs.lemmas.Result.{on_ok_weaker}
use Rattle.miette_tree.proofs.Written.{where_written}
use Rattle.miette_json.proofs.JsonSpelled.{control_written}
use Rattle.miette_json.proofs.text.push_control.Goals as goal

pub returns : goal.returns
returns c =
    on_ok_weaker c.push.result (control_written _ _ _ _ c.args.byte _ c.control_front.ensures
    c.in_ok-push_str.ensures.bytes c.hex_digit.ensures.digit c.hex_digit.ensures.low)
    (where_written c.push.result _ _ _ c.push.ensures.bytes)
