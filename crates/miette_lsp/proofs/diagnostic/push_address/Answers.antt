use Rattle.std.proofs.Common.{ap, codes, ◌∙◌}
use Rattle.std.proofs.lemmas.Result.{on_ok_weaker}
use Rattle.miette_json.proofs.WrittenSteps.{four_steps}
use Rattle.miette_json.specs.rules.Json.{string}
use Rattle.miette_json.specs.rules.Writing.{closed, opened, with_key, with_value}
use Rattle.miette_sarif.specs.rules.Uris.{address_uri}
use Rattle.miette_lsp.proofs.diagnostic.push_address.Goals as goal

pub returns : goal.returns
returns c =
    on_ok_weaker c.end_object.result (four_steps (with_key (codes "codeDescription")) (opened 123)
    (λ p. with_value (string (address_uri c.args.url.now)) (with_key (codes "href") p)) (closed 125) _ _ _ _ _
    c.in_ok-key.ensures c.in_ok-begin_object.ensures (c.in_ok-string_member.ensures
    ∙ ap (λ t. with_value (string t) (with_key (codes "href") c.begin_object.new.self))
    (c.as_str.ensures.value ∙ c.in_ok-uri.ensures))) c.end_object.ensures
