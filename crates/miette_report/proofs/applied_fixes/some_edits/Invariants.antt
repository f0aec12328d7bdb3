use Rattle.std.proofs.Common.{◌≡◌, drop}
use Rattle.std.specs.Prelude.{not}
use Rattle.std.specs.List.{list_any}
use Rattle.miette_lines.specs.rules.Lists.{is_nil}
use Rattle.miette_fixes.specs.rules.ApplyingAll.{edit_lists}
use Rattle.miette_report.proofs.applied_fixes.some_edits.Given as goal

abbrev pub invariant-loop-fix : goal.invariant-loop-fix
invariant-loop-fix l =
    list_any (λ edits. not (is_nil edits)) (edit_lists (drop l.fix-index l.fixes))
    ≡ list_any (λ edits. not (is_nil edits)) (edit_lists l.fixes)
