use Rattle.std.proofs.Common.{◌≡◌, ◌++◌, string_bytes, drop}
use Rattle.miette_brief.specs.rules.Fixes.{brief_fixes_rows}
use Rattle.miette_brief.specs.rules.Rows.{brief_rows_text}
use Rattle.miette_brief.specs.steps.Conversions.{brief_location_of, brief_origin_of}
use Rattle.miette_brief.proofs.fixes.push_each.Given as goal

abbrev pub invariant-loop-fix : goal.invariant-loop-fix
invariant-loop-fix l = string_bytes l.out
    ++ brief_rows_text (brief_fixes_rows (brief_location_of l.at) (brief_origin_of l.over) (drop l.fix-index l.fixes))
    ≡ string_bytes l.fn.out ++ brief_rows_text (brief_fixes_rows (brief_location_of l.at) (brief_origin_of l.over)
    l.fixes)
