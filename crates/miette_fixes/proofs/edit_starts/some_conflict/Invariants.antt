use Rattle.std.proofs.Common.{◌≡◌, List, drop, false}
use Rattle.miette_fixes.specs.rules.ApplyingAll.{all_edits, some_conflict}
use Rattle.miette_fixes.specs.rules.Edits.{Replacement, some_overlap}
use Rattle.miette_fixes.specs.steps.EditStarts.{AreEditStarts}
use Rattle.miette_fixes.proofs.edit_starts.some_conflict.Given as goal

abbrev pub invariant-loop-edit : goal.invariant-loop-edit
invariant-loop-edit l = (lists : List (List Replacement)) → AreEditStarts l.begun lists
    → some_overlap (all_edits lists) ≡ false
    → some_conflict (drop l.edit-index l.edits) (all_edits lists) ≡ some_conflict l.edits (all_edits lists)
