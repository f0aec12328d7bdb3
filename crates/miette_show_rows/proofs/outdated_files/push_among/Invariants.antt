use Rattle.std.proofs.Common.{◌≡◌, ◌++◌, map, string_bytes, take}
use Rattle.std.specs.List.{flat_map}
use Rattle.miette_read.specs.views.Values.{values_behind}
use Rattle.miette_show_rows.specs.rules.OutdatedFiles.{outdated_name}
use Rattle.miette_show_rows.proofs.outdated_files.push_among.Given as goal

-- the names of those that are passed
abbrev pub invariant-loop-span : goal.invariant-loop-span
invariant-loop-span g l = map string_bytes l.names.items ≡ map string_bytes l.initial.names.items
    ++ flat_map (outdated_name (g.F.Files.found l.files)) (values_behind (take l.span-index l.spans))
