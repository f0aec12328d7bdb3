-- Whether a line is in the context of a label that is folded to a number of lines.
use Rattle.std.specs.Prelude.{ℕ, Bool, not, ◌&&◌}
use Rattle.miette_lines.specs.rules.Lines.{Line}
use Rattle.miette_snippet_rules.specs.rules.FoldedLabels.{hides}
use Rattle.miette_snippet_folds.specs.declared.folds.Fold.{Fold}
use Rattle.miette_snippet_folds.specs.views.Folding.{is_around_fold}

abbrev pub is_near_fold : ℕ → ℕ → Line → Fold → Bool
is_near_fold limit place line fold = is_around_fold line fold
    && not (hides limit fold.first fold.last fold.label.around place)
