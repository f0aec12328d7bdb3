use Rattle.std.proofs.Common.{ap, codes, sym, ◌∙◌}
use Rattle.std.proofs.lemmas.Result.{on_ok_weaker}
use Rattle.std.specs.Option.{option_copied}
use Rattle.miette_json.proofs.WrittenSteps.{two_steps}
use Rattle.miette_json.specs.rules.Writing.{with_key, with_value}
use Rattle.miette_sarif.specs.rules.Objects.{message_of}
use Rattle.miette_sarif.specs.rules.Places.{snippet_pairs}
use Rattle.miette_sarif.specs.steps.Members.{with_pairs}
use Rattle.miette_sarif.proofs.places.push_snippet.Goals as goal

pub returns-in_ok-key-in-Some : goal.returns-in_ok-key-in-Some
returns-in_ok-key-in-Some c =
    let old = c.args.json.now in
    on_ok_weaker c.push_plain_message.result (λ put. two_steps (with_key (codes "snippet"))
    (with_value (message_of c.in-Some.text.now)) old _ _ c.in_ok-key-in-Some.ensures put
    ∙ ap (λ o. with_pairs (snippet_pairs (option_copied o)) old) (sym c.in-Some.is)) c.push_plain_message.ensures
