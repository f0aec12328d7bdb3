use Rattle.std.proofs.Common.{◌≡◌, take}
use Rattle.miette_read.specs.rules.Reports.{labels_in}
use Rattle.miette_read.proofs.reports.labels_in.Given as goal

abbrev pub invariant-loop-mark : goal.invariant-loop-mark
invariant-loop-mark l = l.labels.items ≡ labels_in (take l.mark-index l.marks) l.list
