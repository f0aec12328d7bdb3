use Rattle.std.proofs.Common.{◌≡◌, ◌++◌, drop}
use Rattle.std.specs.List.{filter}
use Rattle.miette_fixes.specs.rules.Edits.{is_machine_applicable}
use Rattle.miette_report.specs.steps.FixLists.{fixes_in}
use Rattle.miette_report.proofs.applied_fixes.sure_ones.Given as goal

-- those that were found, and what is left to find, are all
abbrev pub invariant-loop-fix : goal.invariant-loop-fix
invariant-loop-fix l =
    fixes_in l.found.items ++ filter (λ fix. is_machine_applicable fix.applicability)
    (fixes_in (drop l.fix-index l.fixes))
    ≡ filter (λ fix. is_machine_applicable fix.applicability) (fixes_in l.fixes)
