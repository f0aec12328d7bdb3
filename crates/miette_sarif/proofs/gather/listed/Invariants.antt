use Rattle.std.proofs.Common.{◌≡◌, ◌++◌, drop}
use Rattle.miette_sarif.specs.views.Grouped.{labels_in}
use Rattle.miette_sarif.proofs.gather.listed.Given as goal

abbrev pub invariant-loop-label : goal.invariant-loop-label
invariant-loop-label l = labels_in l.list.items ++ drop l.label-index l.labels ≡ l.labels
