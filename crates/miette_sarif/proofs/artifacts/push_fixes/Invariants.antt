use Rattle.std.proofs.Common.{◌≡◌, ◌++◌, map, drop}
use Rattle.miette_sarif.specs.rules.Artifacts.{named_in_fixes}
use Rattle.miette_sarif.specs.views.Findings.{source_names_of, applicable_fix_of}
use Rattle.miette_sarif.proofs.artifacts.push_fixes.Given as goal

abbrev pub invariant-loop-fix : goal.invariant-loop-fix
invariant-loop-fix l = source_names_of l.names.items ++ named_in_fixes (map applicable_fix_of
    (drop l.fix-index l.fixes))
    ≡ source_names_of l.fn.names.items ++ named_in_fixes (map applicable_fix_of l.fixes)
