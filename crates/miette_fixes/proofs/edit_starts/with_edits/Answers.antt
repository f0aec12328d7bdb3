use Rattle.std.proofs.Common.{List, refl, subst}
use Rattle.std.proofs.lemmas.List.{take_all}
use Rattle.miette_fixes.specs.rules.Edits.{Replacement}
use Rattle.miette_fixes.specs.steps.EditStarts.{AreEditStarts}
use Rattle.miette_fixes.proofs.Begins.{begun_start, begun_step, with_last}
use Rattle.miette_fixes.proofs.edit_starts.with_edits.Goals as goal

pub loop-edit-init : goal.loop-edit-init
loop-edit-init c = λ lists h number. begun_start c.args.begun lists h

pub loop-edit-preserved : goal.loop-edit-preserved
loop-edit-preserved c = λ lists h number.
    begun_step c.loop-edit.begun _ lists c.args.edits.now c.loop-edit.edit-index c.args.list c.offset.result
    c.edit-item.result _ (c.loop-edit.invariant lists h number) number c.loop-edit-test.true c.edit-item.is
    c.offset.ensures c.greatest_len-len.ensures.fresh c.greatest_len-len.ensures.again refl
    c.in_ok-insert.ensures.updates

pub returns : goal.returns
returns c = λ lists h number.
    subst (λ (es : List Replacement). AreEditStarts c.loop-edit.begun (with_last lists es))
    (take_all c.loop-edit.edit-index c.args.edits.now c.loop-edit-test.false) (c.loop-edit.invariant lists h number)
