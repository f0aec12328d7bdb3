use Rattle.miette_fixes.specs.rules.ApplyingAll.{all_edits}
use Rattle.miette_fixes.proofs.Begun.{conflict_after, conflict_before}
use Rattle.miette_fixes.proofs.edit_starts.conflicts.Goals as goal

pub returns-then-meets_before : goal.returns-then-meets_before
returns-then-meets_before c = λ lists h free.
    conflict_before c.args.edit.now (all_edits lists) c.meets_before.result (c.meets_before.ensures lists h free)
    c.if-meets_before.true

pub returns-else-meets_before : goal.returns-else-meets_before
returns-else-meets_before c = λ lists h free.
    conflict_after c.args.edit.now (all_edits lists) c.meets_before.result c.meets_after.result
    (c.meets_before.ensures lists h free) c.if-meets_before.false (c.meets_after.ensures lists h)
