use Rattle.std.proofs.Common.{ap, ◌∙◌}
use Rattle.std.proofs.lemmas.Result.{on_ok_weaker}
use Rattle.std.specs.Option.{option_map}
use Rattle.miette_json.specs.rules.Writing.{with_value}
use Rattle.miette_lsp.specs.rules.Diagnostics.{related_value}
use Rattle.miette_sarif.specs.views.Findings.{area_of}
use Rattle.miette_lsp.proofs.diagnostic.push_at.Goals as goal

pub returns : goal.returns
returns c =
    on_ok_weaker c.push_related_value.result (λ put. put
    ∙ ap (λ t. with_value (related_value t (option_map area_of c.args.place.area) c.args.text.now) c.args.json.now)
    (c.as_str.ensures.value ∙ c.in_ok-uri.ensures)) c.push_related_value.ensures
