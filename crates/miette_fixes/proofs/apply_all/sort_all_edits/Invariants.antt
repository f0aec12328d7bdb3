use Rattle.std.proofs.Common.{◌≡◌, take}
use Rattle.miette_fixes.specs.rules.ApplyingAll.{all_edits, edit_lists}
use Rattle.miette_fixes.specs.views.Ordered.{edits_of}
use Rattle.miette_fixes.proofs.apply_all.sort_all_edits.Given as goal

abbrev pub invariant-loop-fix : goal.invariant-loop-fix
invariant-loop-fix l = edits_of l.list.items ≡ all_edits (edit_lists (take l.fix-index l.fixes))
