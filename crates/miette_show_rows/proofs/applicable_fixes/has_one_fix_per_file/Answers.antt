use Rattle.std.proofs.Common.{◌≡◌, ◌∙◌, Bor, None, ap, false, sym, rules}
use Rattle.std.specs.List.{list_all}
use Rattle.miette_read.specs.rules.Reports.{first_edits_of_others}
use Rattle.miette_read.specs.views.Edits.{edits_behind}
use Rattle.miette_read.specs.rules.SuggestedFixes.{FileEdit}
use Rattle.miette_read.proofs.Steps.{all_more, not_all}
use Rattle.miette_show_rows.specs.rules.ApplicableFixes.{has_one_fix}
use Rattle.miette_show_rows.proofs.applicable_fixes.has_one_fix_per_file.Goals as goal

pub loop-edit-preserved : goal.loop-edit-preserved
loop-edit-preserved c =
    let l = c.loop-edit in
    all_more (λ (e : Bor FileEdit). e.now) c.as_slice-edit-items.result.now l.edit-index c.edit-item.result
    c.loop-edit-test.true c.edit-item.is (has_one_fix c.args.offer.now) l.invariant (search rules)

pub returns-then-not-branch : goal.returns-then-not-branch
returns-then-not-branch c =
    let one = has_one_fix c.args.offer.now in
    let not : one c.edit-item.result.now ≡ false = search rules in
    let given : c.as_slice.result.now ≡ c.args.offer.now.edits = search rules in
    let listed : edits_behind c.as_slice-edit-items.result.now ≡ first_edits_of_others None c.args.offer.now.edits =
    ap edits_behind c.as_slice-edit-items.ensures.value ∙ c.in_ok-first_edits.ensures
    ∙ ap (first_edits_of_others None) given
    in
    sym (not_all (λ (e : Bor FileEdit). e.now) one c.as_slice-edit-items.result.now c.loop-edit.edit-index
    c.edit-item.result c.loop-edit-test.true c.edit-item.is not) ∙ ap (list_all one) listed
