use Rattle.std.proofs.Common.{◌∙◌, ap, arith, sym}
use Rattle.std.proofs.lemmas.List.{length-map}
use Rattle.std.specs.BTreeMap.{get}
use Rattle.std.specs.Cmp.Lexicographic.{pointwise}
use Rattle.std.specs.Ordering.{nat_cmp}
use Rattle.miette_fixes.specs.rules.ApplyingAll.{edit_lists, same_edit}
use Rattle.miette_fixes.specs.rules.Edits.{FixModel}
use Rattle.miette_fixes.proofs.Among.{among_is, fix_at, not_among}
use Rattle.miette_fixes.proofs.edit_starts.equals_some_fix.Goals as goal
use denote.Ref.{Bor}

pub returns-in-Some-get-2 : goal.returns-in-Some-get-2
returns-in-Some-get-2 c = λ some h free.
    let found = c.in-Some-get-2.ensures.lookup in
    c.eq.ensures
    ∙ ap (pointwise same_edit c.args.edits.now) (c.edits.ensures
    ∙ sym (fix_at c.args.fixes.now c.in-Some-get.beginning.now.list c.in-Some-get-2.fix.now found.3.0 found.1))
    ∙ among_is c.args.begun.now (edit_lists c.args.fixes.now) c.args.edits.now c.in-Some.first.now
    c.in-Some-get.beginning.now h free (sym c.in-Some.ensures.value)
    (ap (get nat_cmp c.args.begun.now) (sym c.offset.ensures) ∙ sym c.in-Some-get.ensures.value)

pub returns-in-None-get : goal.returns-in-None-get
returns-in-None-get c = λ some h free.
    let own = h.whose c.in-Some.first.now.span.offset c.in-Some-get.beginning.now
    (ap (get nat_cmp c.args.begun.now) (sym c.offset.ensures) ∙ sym c.in-Some-get.ensures.value) in
    let many = length-map c.args.fixes.now (λ (fix : Bor FixModel). fix.now.edits) in
    let found = c.in-None-get.ensures.lookup in
    absurd (omega (arith, own.0, many, found.3))

pub returns-in-None : goal.returns-in-None
returns-in-None c = λ some h free.
    sym (not_among c.args.begun.now (edit_lists c.args.fixes.now) c.args.edits.now c.in-Some.first.now h
    (sym c.in-Some.ensures.value)
    (ap (get nat_cmp c.args.begun.now) (sym c.offset.ensures) ∙ sym c.in-None.ensures.value))
