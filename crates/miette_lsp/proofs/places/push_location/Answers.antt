use Rattle.std.proofs.Common.{codes}
use Rattle.std.proofs.lemmas.Result.{on_ok_weaker}
use Rattle.std.specs.Option.{option_map}
use Rattle.miette_json.proofs.WrittenSteps.{five_steps}
use Rattle.miette_json.specs.rules.Json.{string}
use Rattle.miette_json.specs.rules.Writing.{closed, opened, with_key, with_value}
use Rattle.miette_lsp.specs.rules.Diagnostics.{area_range}
use Rattle.miette_sarif.specs.views.Findings.{area_of}
use Rattle.miette_lsp.proofs.places.push_location.Goals as goal

pub returns : goal.returns
returns c =
    on_ok_weaker c.end_object.result (five_steps (opened 123)
    (λ p. with_value (string c.args.uri.now) (with_key (codes "uri") p)) (with_key (codes "range"))
    (with_value (area_range (option_map area_of c.args.area))) (closed 125) _ _ _ _ _ _ c.in_ok-begin_object.ensures
    c.in_ok-string_member.ensures c.in_ok-key.ensures c.in_ok-push_area_range.ensures) c.end_object.ensures
