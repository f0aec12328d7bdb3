use Rattle.std.proofs.Common.{◌≡◌, ◌++◌, take, map, false}
use Rattle.std.specs.Option.{option_copied}
use Rattle.miette_read.specs.views.Values.{values_behind}
use Rattle.miette_read_gcc.specs.rules.Gcc.{location_annotation}
use Rattle.miette_read_gcc.specs.views.GccContexts.{gcc_context}
use Rattle.miette_read_gcc.proofs.diagnostic_annotations.push_locations.Given as goal

-- what the locations that are passed tell
abbrev pub invariant-loop-location : goal.invariant-loop-location
invariant-loop-location g l =
    l.list.items
    ≡ l.initial.list.items
    ++ map (location_annotation (gcc_context g.F.Files.found l.context) (option_copied l.note) false)
    (values_behind (take l.location-index l.rest))
