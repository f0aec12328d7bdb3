use Rattle.std.proofs.Common.{◌≡◌, ◌++◌, map, take}
use Rattle.miette_read.specs.views.Edits.{edits_behind}
use Rattle.miette_show_rows.specs.rules.ApplicableFixes.{fixes_over}
use Rattle.miette_show_rows.proofs.applicable_fixes.push_suggestion.Given as goal

-- the fixes of the files that are passed
abbrev pub invariant-loop-edit : goal.invariant-loop-edit
invariant-loop-edit l = l.list.items
    ≡ l.initial.list.items ++ map (fixes_over l.offer) (edits_behind (take l.edit-index l.edit-items))
