use Rattle.std.proofs.Common.{◌≡◌, ◌++◌, take}
use Rattle.std.specs.List.{flat_map}
use Rattle.miette_read.specs.views.Values.{values_behind}
use Rattle.miette_read_sarif.specs.rules.Results.{thread_annotations}
use Rattle.miette_read_sarif.specs.views.RunContexts.{run_context}
use Rattle.miette_read_sarif.proofs.context.RunContext.push_flow.Given as goal

abbrev pub invariant-loop-thread : goal.invariant-loop-thread
invariant-loop-thread g l =
    l.list.items
    ≡ l.initial.list.items
    ++ flat_map (thread_annotations (run_context g.F.Files.found l.self))
    (values_behind (take l.thread-index l.thread-items))
