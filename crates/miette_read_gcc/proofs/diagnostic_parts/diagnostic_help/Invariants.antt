use Rattle.std.proofs.Common.{◌≡◌, take, map, string_bytes}
use Rattle.std.specs.List.{fold}
use Rattle.miette_read.specs.views.Values.{values_behind}
use Rattle.miette_read_gcc.specs.rules.GccReport.{with_help}
use Rattle.miette_read_gcc.specs.views.GccContexts.{gcc_context}
use Rattle.miette_read_gcc.proofs.diagnostic_parts.diagnostic_help.Given as goal

abbrev pub invariant-loop-note : goal.invariant-loop-note
invariant-loop-note g l =
    map string_bytes l.rows.items
    ≡ fold (with_help (gcc_context g.F.Files.found l.context)) (map string_bytes l.initial.rows.items)
    (values_behind (take l.note-index l.note-items))
