use Rattle.std.proofs.Common.{◌≡◌, map, take}
use Rattle.serde_json.specs.View.{view}
use Rattle.miette_language_server.specs.rules.Values.{fix_value}
use Rattle.miette_language_server.proofs.diagnostics.fix_values.Given as goal

abbrev pub invariant-loop-fix : goal.invariant-loop-fix
invariant-loop-fix l = map view l.values.items ≡ map (fix_value l.uri l.source) (take l.fix-index l.fixes)
