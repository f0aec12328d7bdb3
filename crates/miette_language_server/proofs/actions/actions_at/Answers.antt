use Rattle.std.proofs.Common.{◌≡◌, ◌∙◌, ap, map, rules, true}
use Rattle.std.proofs.lemmas.Result.{IfOk-weaker}
use Rattle.serde_json.specs.View.{view}
use Rattle.miette_lint.specs.views.Found.{coded_of}
use Rattle.miette_language_server.specs.rules.Actions.{action_value, touches}
use Rattle.miette_language_server.specs.rules.Diagnostics.{diagnostic_value}
use Rattle.miette_language_server.specs.rules.Values.{part}
use Rattle.miette_language_server.proofs.Lists.{where_so}
use Rattle.miette_language_server.proofs.actions.actions_at.Goals as goal

pub returns : goal.returns
returns c =
    let uri = c.args.uri.now in
    let source = c.args.source.now in
    let it = c.args.found.now in
    let told : view c.in_ok-diagnostic.diagnostic ≡ diagnostic_value uri source (coded_of it) =
    c.in_ok-diagnostic.ensures in
    let touched : touches (part source it.label.span) c.args.region ≡ true = search rules in
    IfOk-weaker c.fix_actions.result _ _ (λ list h. h
    ∙ ap (λ d. map (action_value uri source d) c.as_slice.result.now) told
    ∙ ap (map (action_value uri source (diagnostic_value uri source (coded_of it)))) c.as_slice.ensures.value
    ∙ where_so (touches (part source it.label.span) c.args.region)
    (map (action_value uri source (diagnostic_value uri source (coded_of it))) it.fixes.items) touched)
    c.fix_actions.ensures
