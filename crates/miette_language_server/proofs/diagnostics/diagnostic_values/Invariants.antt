use Rattle.std.proofs.Common.{◌≡◌, map, take}
use Rattle.serde_json.specs.View.{view}
use Rattle.miette_lint.specs.views.Found.{coded_of}
use Rattle.miette_language_server.specs.rules.Diagnostics.{diagnostic_value}
use Rattle.miette_language_server.proofs.diagnostics.diagnostic_values.Given as goal

abbrev pub invariant-loop-it : goal.invariant-loop-it
invariant-loop-it l =
    map view l.values.items ≡ map (λ it. diagnostic_value l.uri l.source (coded_of it)) (take l.it-index l.found)
