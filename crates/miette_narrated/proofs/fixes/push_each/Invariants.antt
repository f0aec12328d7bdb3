use Rattle.std.proofs.Common.{◌≡◌, ◌++◌, string_bytes, drop}
use Rattle.miette_narrated.specs.rules.Fixes.{narrated_fixes_rows}
use Rattle.miette_narrated.specs.steps.FixSources.{narrated_origin_of}
use Rattle.miette_narrated.proofs.fixes.push_each.Given as goal

abbrev pub invariant-loop-fix : goal.invariant-loop-fix
invariant-loop-fix l = string_bytes l.out ++ narrated_fixes_rows (narrated_origin_of l.over) (drop l.fix-index l.fixes)
    ≡ string_bytes l.fn.out ++ narrated_fixes_rows (narrated_origin_of l.over) l.fixes
