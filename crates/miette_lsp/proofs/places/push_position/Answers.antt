use Rattle.std.proofs.Common.{codes}
use Rattle.std.proofs.lemmas.Result.{on_ok_weaker}
use Rattle.miette_json.proofs.WrittenSteps.{four_steps}
use Rattle.miette_json.specs.rules.Json.{number}
use Rattle.miette_json.specs.rules.Writing.{closed, opened, with_key, with_value}
use Rattle.miette_lsp.proofs.places.push_position.Goals as goal

pub returns : goal.returns
returns c =
    on_ok_weaker c.end_object.result (four_steps (opened 123)
    (λ p. with_value (number c.args.at.line) (with_key (codes "line") p))
    (λ p. with_value (number c.args.at.column) (with_key (codes "character") p)) (closed 125) _ _ _ _ _
    c.in_ok-begin_object.ensures c.in_ok-number_member.ensures c.in_ok-number_member-2.ensures) c.end_object.ensures
