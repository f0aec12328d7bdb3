use Rattle.std.proofs.Common.{Bor}
use Rattle.miette_read.proofs.Steps.{told_more}
use Rattle.miette_read.specs.rules.SuggestedFixes.{FileEdit}
use Rattle.miette_show_rows.specs.rules.ApplicableFixes.{fixes_over}
use Rattle.miette_show_rows.proofs.applicable_fixes.push_suggestion.Goals as goal

pub loop-edit-preserved : goal.loop-edit-preserved
loop-edit-preserved c =
    let l = c.loop-edit in
    told_more (λ (e : Bor FileEdit). e.now) c.as_slice-edit-items.result.now l.edit-index c.edit-item.result
    c.loop-edit-test.true c.edit-item.is (fixes_over c.args.offer.now) c.args.list.now.items l.list.items
    c.push_item.new.list.items c.in_ok-fixes_over.field-0 c.in_ok-fixes_over.ensures c.in_ok-push_item.ensures
    l.invariant
