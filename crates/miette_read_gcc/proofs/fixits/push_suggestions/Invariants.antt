use Rattle.std.proofs.Common.{◌≡◌, ◌++◌, take}
use Rattle.std.specs.List.{filter_map}
use Rattle.miette_read.specs.views.Values.{values_behind}
use Rattle.miette_read_gcc.specs.rules.GccReport.{diagnostic_suggestion}
use Rattle.miette_read_gcc.specs.views.GccContexts.{gcc_context}
use Rattle.miette_read_gcc.proofs.fixits.push_suggestions.Given as goal

abbrev pub invariant-loop-note : goal.invariant-loop-note
invariant-loop-note g l =
    l.list.items
    ≡ l.initial.list.items
    ++ filter_map (diagnostic_suggestion (gcc_context g.F.Files.found l.context))
    (values_behind (take l.note-index l.notes))
