use Rattle.std.proofs.Common.{◌≡◌, map, string_bytes, take}
use Rattle.std.specs.List.{flat_map}
use Rattle.miette_read.specs.views.Values.{values_behind}
use Rattle.miette_show_rows.specs.rules.OutdatedFiles.{outdated_in_child}
use Rattle.miette_show_rows.proofs.outdated_files.outdated_names.Given as goal

-- the names of those that are passed
abbrev pub invariant-loop-child : goal.invariant-loop-child
invariant-loop-child g l = map string_bytes l.names.items
    ≡ flat_map (outdated_in_child (g.F.Files.found l.files)) (values_behind (take l.child-index l.children))
