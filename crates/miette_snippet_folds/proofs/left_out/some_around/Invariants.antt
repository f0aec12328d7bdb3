use Rattle.std.proofs.Common.{◌≡◌, false, take}
use Rattle.std.specs.List.{list_any}
use Rattle.miette_lines.specs.views.Walking.{line_of_text}
use Rattle.miette_snippet_folds.specs.views.Folding.{is_around_fold}
use Rattle.miette_snippet_folds.proofs.left_out.some_around.Given as goal

abbrev pub invariant-loop-fold : goal.invariant-loop-fold
invariant-loop-fold l = list_any (is_around_fold (line_of_text l.line)) (take l.fold-index l.folds) ≡ false
