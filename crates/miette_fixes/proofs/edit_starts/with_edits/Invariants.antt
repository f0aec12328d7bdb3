use Rattle.std.proofs.Common.{◌≡◌, List, length, take}
use Rattle.miette_fixes.specs.rules.Edits.{Replacement}
use Rattle.miette_fixes.specs.steps.EditStarts.{AreEditStarts}
use Rattle.miette_fixes.proofs.Begins.{with_last}
use Rattle.miette_fixes.proofs.edit_starts.with_edits.Given as goal

abbrev pub invariant-loop-edit : goal.invariant-loop-edit
invariant-loop-edit l = (lists : List (List Replacement)) → AreEditStarts l.initial.begun lists → l.list ≡ length lists
    → AreEditStarts l.begun (with_last lists (take l.edit-index l.edits))
