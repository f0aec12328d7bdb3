use Rattle.std.proofs.Common.{codes, [], ◌∷◌}
use Rattle.std.proofs.lemmas.Result.{on_ok_weaker}
use Rattle.miette_json.proofs.WrittenSteps.{seven_steps}
use Rattle.miette_json.specs.rules.Json.{string}
use Rattle.miette_json.specs.rules.Writing.{closed, opened, with_key, with_value}
use Rattle.miette_sarif.proofs.log.push_units.Goals as goal

pub returns : goal.returns
returns c =
    on_ok_weaker c.end_list.result (seven_steps
    (λ p. with_value (string (codes "utf16CodeUnits")) (with_key (codes "columnKind") p))
    (with_key (codes "newlineSequences")) (opened 91) (with_value (string (13 ∷ 10 ∷ [])))
    (with_value (string (10 ∷ []))) (with_value (string (13 ∷ []))) (closed 93) _ _ _ _ _ _ _ _
    c.in_ok-string_member.ensures c.in_ok-key.ensures c.in_ok-begin_list.ensures c.in_ok-string.ensures
    c.in_ok-string-2.ensures c.in_ok-string-3.ensures) c.end_list.ensures
