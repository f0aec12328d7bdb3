use Rattle.std.proofs.Common.{◌∙◌, ap, refl, sym}
use Rattle.std.proofs.lemmas.List.{drop_all}
use Rattle.miette_fixes.specs.rules.ApplyingAll.{all_edits, some_conflict}
use Rattle.miette_fixes.proofs.Begun.{conflict_here, conflict_later}
use Rattle.miette_fixes.proofs.edit_starts.some_conflict.Goals as goal

pub loop-edit-init : goal.loop-edit-init
loop-edit-init c = λ lists h free. refl

pub returns-then-conflicts : goal.returns-then-conflicts
returns-then-conflicts c = λ lists h free.
    conflict_here c.args.edits.now (all_edits lists) c.loop-edit.edit-index c.edit-item.result _ c.loop-edit-test.true
    c.edit-item.is (sym (c.conflicts.ensures lists h free) ∙ c.if-conflicts.true) (c.loop-edit.invariant lists h free)

pub loop-edit-preserved : goal.loop-edit-preserved
loop-edit-preserved c = λ lists h free.
    conflict_later c.args.edits.now (all_edits lists) c.loop-edit.edit-index c.edit-item.result _ c.loop-edit-test.true
    c.edit-item.is (sym (c.conflicts.ensures lists h free) ∙ c.if-conflicts.false)
    (c.loop-edit.invariant lists h free)

pub returns : goal.returns
returns c = λ lists h free.
    ap (λ es. some_conflict es (all_edits lists))
    (sym (drop_all c.loop-edit.edit-index c.args.edits.now c.loop-edit-test.false))
    ∙ c.loop-edit.invariant lists h free
