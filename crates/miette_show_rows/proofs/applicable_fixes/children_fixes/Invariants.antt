use Rattle.std.proofs.Common.{◌≡◌, take}
use Rattle.std.specs.List.{flat_map}
use Rattle.miette_read.specs.views.Values.{values_behind}
use Rattle.miette_show_rows.specs.rules.ApplicableFixes.{child_fixes}
use Rattle.miette_show_rows.proofs.applicable_fixes.children_fixes.Given as goal

-- the fixes of those that are passed
abbrev pub invariant-loop-child : goal.invariant-loop-child
invariant-loop-child g l =
    l.list.items ≡ flat_map (child_fixes (g.F.Files.found l.files)) (values_behind (take l.child-index l.children))
