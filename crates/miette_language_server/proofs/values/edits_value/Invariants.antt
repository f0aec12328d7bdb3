use Rattle.std.proofs.Common.{◌≡◌, map, take}
use Rattle.serde_json.specs.View.{view}
use Rattle.miette_language_server.specs.rules.Values.{edit_value}
use Rattle.miette_language_server.proofs.values.edits_value.Given as goal

abbrev pub invariant-loop-edit : goal.invariant-loop-edit
invariant-loop-edit l = map view l.values.items ≡ map (edit_value l.source) (take l.edit-index l.edits)
