-- The index of label extents by offset.
use Rattle.std.specs.Prelude.{ℕ, ◌+◌, ◌-◌, ◌<◌, ◌≤◌, ◌≡◌, max, Bool, ◌&&◌, List, length, map, slice_index}
use Rattle.std.specs.Prelude.{slice_index_or}
use Rattle.std.specs.List.{list_any}
use Rattle.miette_lines.specs.rules.Lines.{Line}
use Rattle.miette_snippet_folds.specs.declared.folds.LabelExtent.{LabelExtent as MadeExtent}
use Rattle.miette_snippet_folds.specs.views.ExtentIndex.{extent_view}
use Rattle.miette_snippet_rules.specs.rules.FoldedLabels.{LabelExtent, is_around}

-- For each label, the largest end of the contexts up to it. For each label, last one first, the smallest start of the
-- contexts from it on.
pub record AreBounds (labels : List MadeExtent) (ends begins : List ℕ) : Type 0 where
  pub untils : length ends ≡ length labels
  pub until : (j k : ℕ) (d : MadeExtent) → j ≤ k → k < length labels →
      max (slice_index_or labels j d).until (slice_index_or labels j d).from ≤ slice_index ends k
  pub froms : length begins ≡ length labels
  pub from : (j k : ℕ) (d : MadeExtent) → k < length labels → length labels - (k + 1) ≤ j → j < length labels →
      slice_index begins k ≤ (slice_index_or labels j d).from

-- The contexts of labels before one index end before these bytes; those from another index on begin after them.
pub record IsWindow (start end : ℕ) (labels : List MadeExtent) (first after : ℕ) : Type 0 where
  pub order : first ≤ after
  pub within : after ≤ length labels
  pub until : (k : ℕ) (d : MadeExtent) → k < first → (slice_index_or labels k d).until ≤ start
  pub begun : (k : ℕ) (d : MadeExtent) → k < first → (slice_index_or labels k d).from < end
  pub from : (k : ℕ) (d : MadeExtent) → after ≤ k → k < length labels → end ≤ (slice_index_or labels k d).from

-- for lines in a range of bytes, the labels of one list decide the same as those of the other
abbrev pub AreAround : ℕ → ℕ → List MadeExtent → List MadeExtent → Type 0
AreAround start end all some = (line : Line) → start ≤ line.start → line.end ≤ end → (test : LabelExtent → Bool) →
    list_any (λ s. is_around line s && test s) (map extent_view some)
    ≡ list_any (λ s. is_around line s && test s) (map extent_view all)
