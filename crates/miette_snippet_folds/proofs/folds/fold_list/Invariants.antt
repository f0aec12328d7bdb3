use Rattle.std.proofs.Common.{◌≡◌, ◌++◌, drop, map}
use Rattle.miette_snippet_folds.specs.views.Folding.{fold_in}
use Rattle.miette_snippet_folds.proofs.folds.fold_list.Given as goal

abbrev pub invariant-loop-label : goal.invariant-loop-label
invariant-loop-label l =
    l.folds.items ++ map (fold_in l.contents.span.offset l.contents.bytes) (drop l.label-index l.labels)
    ≡ map (fold_in l.contents.span.offset l.contents.bytes) l.labels
