use Rattle.std.proofs.Common.{◌≡◌, take, true}
use Rattle.std.specs.List.{list_all}
use Rattle.miette_read.specs.views.Values.{values_behind}
use Rattle.miette_read_sarif.specs.rules.Counting.{is_accepted}
use Rattle.miette_read_sarif.proofs.counted_results.all_accepted.Given as goal

abbrev pub invariant-loop-suppression : goal.invariant-loop-suppression
invariant-loop-suppression l = list_all is_accepted (values_behind (take l.suppression-index l.suppressions)) ≡ true
