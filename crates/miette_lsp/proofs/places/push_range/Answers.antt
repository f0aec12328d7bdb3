use Rattle.std.proofs.Common.{codes}
use Rattle.std.proofs.lemmas.Result.{on_ok_weaker}
use Rattle.miette_json.proofs.WrittenSteps.{six_steps}
use Rattle.miette_json.specs.rules.Writing.{closed, opened, with_key, with_value}
use Rattle.miette_lsp.specs.rules.Diagnostics.{lsp_position_value}
use Rattle.miette_lsp.proofs.places.push_range.Goals as goal

pub returns : goal.returns
returns c =
    on_ok_weaker c.end_object.result (six_steps (opened 123) (with_key (codes "start"))
    (with_value (lsp_position_value c.args.start)) (with_key (codes "end")) (with_value (lsp_position_value c.args.end))
    (closed 125) _ _ _ _ _ _ _ c.in_ok-begin_object.ensures c.in_ok-key.ensures c.in_ok-push_position.ensures
    c.in_ok-key-2.ensures c.in_ok-push_position-2.ensures) c.end_object.ensures
