use Rattle.std.proofs.Common.{◌≡◌, take, true}
use Rattle.std.specs.List.{list_all}
use Rattle.miette_read.specs.views.Edits.{edits_behind}
use Rattle.miette_show_rows.specs.rules.ApplicableFixes.{has_one_fix}
use Rattle.miette_show_rows.proofs.applicable_fixes.has_one_fix_per_file.Given as goal

-- those that are passed are
abbrev pub invariant-loop-edit : goal.invariant-loop-edit
invariant-loop-edit l = list_all (has_one_fix l.offer) (edits_behind (take l.edit-index l.edit-items)) ≡ true
