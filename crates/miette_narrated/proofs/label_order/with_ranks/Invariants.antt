use Rattle.std.proofs.Common.{◌≡◌, ◌++◌, drop, length}
use Rattle.miette_narrated.specs.steps.Ends.{ranked_labels}
use Rattle.miette_narrated.proofs.label_order.with_ranks.Given as goal

abbrev pub invariant-loop-label : goal.invariant-loop-label
invariant-loop-label l = l.made.items ++ ranked_labels (length l.made.items) (drop l.label-index l.placed)
    ≡ ranked_labels 0 l.placed
