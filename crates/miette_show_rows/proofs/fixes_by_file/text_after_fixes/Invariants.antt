use Rattle.std.proofs.Common.{◌≡◌, map, take}
use Rattle.miette_fixes.specs.rules.ApplyingAll.{edit_lists}
use Rattle.miette_show_rows.proofs.fixes_by_file.text_after_fixes.Given as goal

-- the edits of those that are passed
abbrev pub invariant-loop-fix : goal.invariant-loop-fix
invariant-loop-fix l = edit_lists l.list.items ≡ map (λ fix. fix.edits) (take l.fix-index l.fixes)
