use Rattle.std.proofs.Common.{codes}
use Rattle.std.proofs.lemmas.Result.{on_ok_weaker}
use Rattle.std.specs.Option.{option_map}
use Rattle.miette_json.proofs.WrittenSteps.{five_steps}
use Rattle.miette_json.specs.rules.Json.{string}
use Rattle.miette_json.specs.rules.Writing.{closed, opened, with_key, with_value}
use Rattle.miette_lsp.specs.rules.Diagnostics.{location_value}
use Rattle.miette_sarif.specs.views.Findings.{area_of}
use Rattle.miette_lsp.proofs.diagnostic.push_related_value.Goals as goal

pub returns : goal.returns
returns c =
    on_ok_weaker c.end_object.result (five_steps (opened 123) (with_key (codes "location"))
    (with_value (location_value c.args.uri.now (option_map area_of c.args.area)))
    (λ p. with_value (string c.args.text.now) (with_key (codes "message") p)) (closed 125) _ _ _ _ _ _
    c.in_ok-begin_object.ensures c.in_ok-key.ensures c.in_ok-push_location.ensures c.in_ok-string_member.ensures)
    c.end_object.ensures
