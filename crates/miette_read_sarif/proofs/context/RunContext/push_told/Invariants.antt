use Rattle.std.proofs.Common.{◌≡◌, ◌++◌, take, map}
use Rattle.miette_read.specs.views.Values.{values_behind}
use Rattle.miette_read_sarif.specs.rules.Results.{located_annotation}
use Rattle.miette_read_sarif.specs.views.RunContexts.{run_context}
use Rattle.miette_read_sarif.proofs.context.RunContext.push_told.Given as goal

-- what the locations that are passed tell
abbrev pub invariant-loop-location : goal.invariant-loop-location
invariant-loop-location g l =
    l.list.items
    ≡ l.initial.list.items
    ++ map (located_annotation (run_context g.F.Files.found l.self) l.primary l.own)
    (values_behind (take l.location-index l.locations))
