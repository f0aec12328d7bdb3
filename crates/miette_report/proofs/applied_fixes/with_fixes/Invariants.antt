use Rattle.std.proofs.Common.{◌≡◌, ◌++◌, take}
use Rattle.miette_report.specs.steps.FixLists.{fixes_in}
use Rattle.miette_report.proofs.applied_fixes.with_fixes.Given as goal

abbrev pub invariant-loop-fix : goal.invariant-loop-fix
invariant-loop-fix l = fixes_in l.list.items ≡ fixes_in l.initial.list.items ++ take l.fix-index l.fixes
