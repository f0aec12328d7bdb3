use Rattle.std.proofs.Common.{◌≡◌, take, map, string_bytes}
use Rattle.miette_read.specs.rules.RustcReport.{help_rows}
use Rattle.miette_read.specs.views.Values.{values_behind}
use Rattle.miette_read.proofs.message_parts.help_rows.Given as goal

abbrev pub invariant-loop-child : goal.invariant-loop-child
invariant-loop-child g l =
    map string_bytes l.rows.items ≡ help_rows (g.F.Files.found l.files) (values_behind (take l.child-index l.children))
