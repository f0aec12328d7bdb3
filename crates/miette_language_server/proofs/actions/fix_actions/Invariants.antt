use Rattle.std.proofs.Common.{◌≡◌, map, take}
use Rattle.serde_json.specs.View.{view}
use Rattle.miette_language_server.specs.rules.Actions.{action_value}
use Rattle.miette_language_server.proofs.actions.fix_actions.Given as goal

abbrev pub invariant-loop-fix : goal.invariant-loop-fix
invariant-loop-fix l =
    map view l.list.items ≡ map (action_value l.uri l.source (view l.diagnostic)) (take l.fix-index l.fixes)
