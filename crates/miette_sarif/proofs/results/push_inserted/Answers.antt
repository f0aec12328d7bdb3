use Rattle.std.proofs.Common.{ap, codes, refl, ◌∙◌}
use Rattle.std.proofs.lemmas.Result.{on_ok_weaker}
use Rattle.miette_json.proofs.WrittenSteps.{two_steps}
use Rattle.miette_json.specs.rules.Writing.{with_key, with_value}
use Rattle.miette_sarif.proofs.Growing.{none_put}
use Rattle.miette_sarif.proofs.Pieces.{some_inserted}
use Rattle.miette_sarif.specs.rules.Objects.{message_of}
use Rattle.miette_sarif.specs.rules.Results.{inserted}
use Rattle.miette_sarif.specs.steps.Members.{with_pairs}
use Rattle.miette_sarif.proofs.results.push_inserted.Goals as goal

pub returns-then-is_empty : goal.returns-then-is_empty
returns-then-is_empty c =
    none_put c.args.text.now inserted _ c.is_empty.result refl c.is_empty.ensures c.if-is_empty.true

pub returns : goal.returns
returns c =
    let text = c.args.text.now in
    let old = c.args.json.now in
    on_ok_weaker c.push_plain_message.result (λ put. two_steps (with_key (codes "insertedContent"))
    (with_value (message_of text)) old _ _ c.in_ok-key.ensures put
    ∙ ap (λ ps. with_pairs ps old) (some_inserted text c.is_empty.result c.is_empty.ensures c.if-is_empty.false))
    c.push_plain_message.ensures
