use Rattle.std.proofs.Common.{◌≡◌, drop, map}
use Rattle.serde_json.specs.View.{view}
use Rattle.miette_language_server.specs.rules.Changes.{apply_changes}
use Rattle.miette_language_server.proofs.changes.apply_changes.Given as goal

abbrev pub invariant-loop-change : goal.invariant-loop-change
invariant-loop-change l =
    apply_changes l.source (map view l.changes) ≡ apply_changes l.made.items (map view (drop l.change-index l.changes))
