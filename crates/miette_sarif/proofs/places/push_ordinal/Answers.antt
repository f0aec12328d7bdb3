use Rattle.std.proofs.Common.{ap, ◌∙◌}
use Rattle.std.proofs.lemmas.Result.{on_ok_weaker}
use Rattle.miette_json.specs.rules.Json.{number}
use Rattle.miette_json.specs.rules.Writing.{with_key, with_value}
use Rattle.miette_sarif.proofs.places.push_ordinal.Goals as goal

pub returns : goal.returns
returns c =
    on_ok_weaker c.number_member.result (λ put. put
    ∙ ap (λ n. with_value (number n) (with_key c.args.key.now c.args.json.now)) c.in_ok-counted.ensures)
    c.number_member.ensures
