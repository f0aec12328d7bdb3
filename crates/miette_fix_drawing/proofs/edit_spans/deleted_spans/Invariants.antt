use Rattle.std.proofs.Common.{◌≡◌, ◌++◌, drop}
use Rattle.miette_fixes.specs.views.Ordered.{edits_of}
use Rattle.miette_fix_rows.specs.rules.DiffTexts.{deleted_spans}
use Rattle.miette_fix_drawing.proofs.edit_spans.deleted_spans.Given as goal

abbrev pub invariant-loop-edit : goal.invariant-loop-edit
invariant-loop-edit l =
    l.list.items ++ deleted_spans (edits_of (drop l.edit-index l.edits)) ≡ deleted_spans (edits_of l.edits)
