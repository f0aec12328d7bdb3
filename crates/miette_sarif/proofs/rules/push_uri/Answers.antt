use Rattle.std.proofs.Common.{ap, codes, sym, ◌∙◌}
use Rattle.std.proofs.lemmas.Result.{on_ok_weaker}
use Rattle.std.specs.Option.{option_copied}
use Rattle.miette_json.specs.rules.Json.{string}
use Rattle.miette_json.specs.rules.Writing.{with_key, with_value}
use Rattle.miette_sarif.specs.rules.Objects.{optional_text_pairs}
use Rattle.miette_sarif.specs.steps.Members.{with_pairs}
use Rattle.miette_sarif.specs.views.Rules.{option_text}
use Rattle.miette_sarif.proofs.rules.push_uri.Goals as goal

pub returns-in-Some : goal.returns-in-Some
returns-in-Some c =
    let old = c.args.json.now in
    on_ok_weaker c.string_member.result (λ put. put
    ∙ ap (λ t. with_value (string t) (with_key (codes "helpUri") old)) c.as_str.ensures.value
    ∙ ap (λ o. with_pairs (optional_text_pairs (codes "helpUri") (option_text (option_copied o))) old)
    (sym c.in-Some.is)) c.string_member.ensures
