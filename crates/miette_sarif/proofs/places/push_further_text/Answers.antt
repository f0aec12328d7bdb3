use Rattle.std.proofs.Common.{ap, codes, refl, ◌∙◌}
use Rattle.std.proofs.lemmas.Result.{on_ok_weaker}
use Rattle.miette_json.proofs.WrittenSteps.{two_steps}
use Rattle.miette_json.specs.rules.Writing.{with_key, with_value}
use Rattle.miette_sarif.proofs.Growing.{none_put}
use Rattle.miette_sarif.proofs.Pieces.{some_told}
use Rattle.miette_sarif.specs.rules.Messages.{doubled}
use Rattle.miette_sarif.specs.rules.Objects.{message_of}
use Rattle.miette_sarif.specs.rules.Places.{text_pairs}
use Rattle.miette_sarif.specs.steps.Members.{with_pairs}
use Rattle.miette_sarif.proofs.places.push_further_text.Goals as goal

pub returns-then-is_empty : goal.returns-then-is_empty
returns-then-is_empty c =
    none_put c.args.text.now text_pairs _ c.is_empty.result refl c.is_empty.ensures c.if-is_empty.true

pub returns : goal.returns
returns c =
    let text = c.args.text.now in
    let old = c.args.json.now in
    on_ok_weaker c.push_doubled_message.result (λ put. two_steps (with_key (codes "message"))
    (with_value (message_of (doubled text))) old _ _ c.in_ok-key.ensures put
    ∙ ap (λ ps. with_pairs ps old) (some_told text c.is_empty.result c.is_empty.ensures c.if-is_empty.false))
    c.push_doubled_message.ensures
