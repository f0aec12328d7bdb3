-- The index of labels by line.
use Rattle.std.specs.Prelude.{ℕ, ◌+◌, ◌-◌, ◌<◌, ◌≡◌, List, [], ◌∷◌, length, map, drop}
use Rattle.std.specs.Prelude.{slice_index_or, Option, Some, None}
use Rattle.miette_snippet_folds.specs.declared.folds.Fold.{Fold}
use Rattle.miette_snippet_folds.specs.declared.folds.LineStart.{LineStart}
use Rattle.miette_snippet_folds.specs.views.Gaps.{nearest}
use Rattle.miette_snippet_folds.specs.views.ExtentIndexes.{AreBounds}

-- the start of the first line at which the context of one of the labels begins
abbrev pub first_begun : List Fold → Option LineStart
first_begun [] = None
first_begun (fold ∷ folds) = Some (nearest (first_begun folds) fold.begun)

-- for each label from the last to the first: where the context of this or a later label first begins
pub record AreStops (folds : List Fold) (stops : List LineStart) : Type 0 where
  pub many : length stops ≡ length folds
  pub stop : (k : ℕ) (d : LineStart) → k < length folds → Some (slice_index_or stops k d)
      ≡ first_begun (drop (length folds - (k + 1)) folds)

-- the index of labels is correct
pub record AreIndexed (folds : List Fold) (begun : List LineStart) (ends begins : List ℕ) : Type 0 where
  pub bounds : AreBounds (map (λ (f : Fold). f.label) folds) ends begins
  pub stops : AreStops folds begun
