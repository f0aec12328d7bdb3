use Rattle.std.proofs.Common.{◌≡◌, map, string_bytes, take}
use Rattle.std.specs.List.{flat_map}
use Rattle.miette_read.specs.views.Values.{values_behind}
use Rattle.miette_read_sarif.specs.rules.Names.{run_names}
use Rattle.miette_read_sarif.proofs.names.file_names.Given as goal

-- the names of the runs that are passed
abbrev pub invariant-loop-run : goal.invariant-loop-run
invariant-loop-run l = map string_bytes l.list.items ≡ flat_map run_names (values_behind (take l.run-index l.run-items))
