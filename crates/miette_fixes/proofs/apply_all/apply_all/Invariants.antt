use Rattle.std.proofs.Common.{drop, length}
use Rattle.miette_fixes.specs.rules.ApplyingAll.{edit_lists}
use Rattle.miette_fixes.proofs.Choosing.{AreChosen}
use Rattle.miette_fixes.proofs.apply_all.apply_all.Given as goal

abbrev pub invariant-loop-fix : goal.invariant-loop-fix
invariant-loop-fix l =
    AreChosen (length l.source) (edit_lists l.fixes) (edit_lists (drop l.fix-index l.fixes))
    (edit_lists l.counted.items)
    l.begun l.taken.items
