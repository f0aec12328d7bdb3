use Rattle.std.proofs.Common.{◌++◌, ◌∙◌, List, ap, sym}
use Rattle.std.proofs.lemmas.List.{take_all}
use Rattle.miette_fixes.specs.rules.Applying.{by_offset}
use Rattle.miette_fixes.specs.rules.ApplyingAll.{all_edits, edit_lists}
use Rattle.miette_fixes.specs.rules.Edits.{FixModel}
use Rattle.miette_fixes.specs.views.Ordered.{edits_of}
use Rattle.miette_fixes.proofs.Taking.{taken_more}
use Rattle.miette_fixes.proofs.apply_all.sort_all_edits.Goals as goal
use denote.Ref.{Bor}

pub loop-fix-preserved : goal.loop-fix-preserved
loop-fix-preserved c =
    c.in_ok-list.ensures ∙ ap (λ es. edits_of c.loop-fix.list.items ++ es) c.edits.ensures
    ∙ ap (λ es. es ++ c.fix-item.result.now.edits) c.loop-fix.invariant
    ∙ sym (taken_more c.args.fixes.now c.loop-fix.fix-index c.fix-item.result c.loop-fix-test.true c.fix-item.is)

pub returns : goal.returns
returns c =
    c.in_ok-sort.ensures
    ∙ ap by_offset (c.loop-fix.invariant
    ∙ ap (λ (fs : List (Bor FixModel)). all_edits (edit_lists fs))
    (take_all c.loop-fix.fix-index c.args.fixes.now c.loop-fix-test.false))
