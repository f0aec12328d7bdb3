use Rattle.std.proofs.Common.{◌≡◌, drop}
use Rattle.miette_lines.specs.views.Walking.{line_of_text}
use Rattle.miette_snippet_folds.specs.views.Gaps.{nearest_stop}
use Rattle.miette_snippet_folds.proofs.gaps.nearest_stop.Given as goal

abbrev pub invariant-loop-fold : goal.invariant-loop-fold
invariant-loop-fold l = nearest_stop (line_of_text l.line) l.end (drop l.fold-index l.folds)
    ≡ nearest_stop (line_of_text l.line) l.fn.stop l.folds
