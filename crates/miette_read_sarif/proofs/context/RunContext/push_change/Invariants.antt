use Rattle.std.proofs.Common.{◌≡◌, ◌++◌, take, map, string_bytes}
use Rattle.miette_read.specs.views.Values.{values_behind}
use Rattle.miette_read_sarif.specs.rules.Proposals.{replacement_in}
use Rattle.miette_read_sarif.specs.views.RunContexts.{run_context}
use Rattle.miette_read_sarif.proofs.context.RunContext.push_change.Given as goal

abbrev pub invariant-loop-replacement : goal.invariant-loop-replacement
invariant-loop-replacement g l =
    l.list.items
    ≡ l.initial.list.items
    ++ map (replacement_in (run_context g.F.Files.found l.self) (string_bytes l.name))
    (values_behind (take l.replacement-index l.replacement-items))
