use Rattle.std.proofs.Common.{◌≡◌, false, take}
use Rattle.std.specs.List.{list_any}
use Rattle.miette_lines.specs.views.Walking.{line_of_text}
use Rattle.miette_snippet_folds.specs.views.Gaps.{goes_on}
use Rattle.miette_snippet_folds.proofs.gaps.some_goes_on.Given as goal

abbrev pub invariant-loop-fold : goal.invariant-loop-fold
invariant-loop-fold l = list_any (goes_on (line_of_text l.line) l.end) (take l.fold-index l.folds) ≡ false
