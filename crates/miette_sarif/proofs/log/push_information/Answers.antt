use Rattle.std.proofs.Common.{ap, codes, sym, ◌∙◌}
use Rattle.std.proofs.lemmas.Result.{on_ok_weaker}
use Rattle.std.specs.Option.{option_copied, option_map}
use Rattle.miette_json.specs.rules.Json.{string}
use Rattle.miette_json.specs.rules.Writing.{with_key, with_value}
use Rattle.miette_sarif.specs.rules.Objects.{optional_text_pairs}
use Rattle.miette_sarif.specs.rules.Uris.{address_uri}
use Rattle.miette_sarif.specs.steps.Members.{with_pairs}
use Rattle.miette_sarif.proofs.log.push_information.Goals as goal

pub returns-in_ok-uri-in-Some : goal.returns-in_ok-uri-in-Some
returns-in_ok-uri-in-Some c =
    let old = c.args.json.now in
    on_ok_weaker c.string_member.result (λ put. put
    ∙ ap (λ t. with_value (string t) (with_key (codes "informationUri") old))
    (c.as_str.ensures.value ∙ c.in_ok-uri-in-Some.ensures)
    ∙ ap (λ o. with_pairs (optional_text_pairs (codes "informationUri") (option_map address_uri (option_copied o))) old)
    (sym c.in-Some.is)) c.string_member.ensures
