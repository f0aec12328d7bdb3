use Rattle.std.proofs.Common.{◌≡◌, drop, None}
use Rattle.miette_labels.specs.views.Primary.{chosen_label}
use Rattle.miette_labels.proofs.primary.primary.Given as goal

abbrev pub invariant-loop-read : goal.invariant-loop-read
invariant-loop-read l = chosen_label l.own l.span l.first (drop l.read-index l.reads)
    ≡ chosen_label l.own l.span None l.reads
