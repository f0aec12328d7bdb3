use Rattle.std.proofs.Common.{◌≡◌, map, take}
use Rattle.std.specs.List.{flat_map}
use Rattle.serde_json.specs.View.{view}
use Rattle.miette_lint.specs.views.Found.{coded_of}
use Rattle.miette_language_server.specs.rules.Actions.{actions_at}
use Rattle.miette_language_server.proofs.actions.own_actions.Given as goal

abbrev pub invariant-loop-it : goal.invariant-loop-it
invariant-loop-it l = map view l.list.items
    ≡ flat_map (λ it. actions_at l.uri l.source l.region (coded_of it)) (take l.it-index l.found)
