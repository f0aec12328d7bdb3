use Rattle.std.proofs.Common.{◌≡◌, filter, take}
use Rattle.miette_read.specs.views.Values.{values_behind}
use Rattle.miette_read_sarif.specs.rules.Counting.{is_counted}
use Rattle.miette_read_sarif.proofs.counted_results.results_of.Given as goal

abbrev pub invariant-loop-finding : goal.invariant-loop-finding
invariant-loop-finding l = values_behind l.list.items ≡ filter is_counted (values_behind
    (take l.finding-index l.finding-items))
