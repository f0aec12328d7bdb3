use Rattle.std.proofs.Common.{◌-◌, length}
use Rattle.miette_snippet_folds.proofs.LineExtent.{AreCounted}
use Rattle.miette_snippet_folds.proofs.snippet_size.size_of_snippet.Given as goal

abbrev pub invariant-loop-at : goal.invariant-loop-at
invariant-loop-at l = AreCounted l.labels l.start l.bytes l.at l.place l.most l.sweep.next l.sweep.running.items

abbrev pub decreases-loop-at : goal.decreases-loop-at
decreases-loop-at l = length l.bytes - l.at
