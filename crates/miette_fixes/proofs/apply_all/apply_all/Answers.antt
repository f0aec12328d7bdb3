use Rattle.std.proofs.Common.{◌+◌, ◌<◌, ◌≡◌, ◌++◌, ◌∷◌, [], ◌∙◌, List, ap, arith, drop, false, length, subst, sym}
use Rattle.std.proofs.lemmas.Bool.{lt-ltb}
use Rattle.std.proofs.lemmas.List.{length-map, map-append}
use Rattle.miette_fixes.specs.laws.Conflicts.{NoTwoConflict}
use Rattle.miette_fixes.specs.rules.Applying.{by_offset}
use Rattle.miette_fixes.specs.rules.ApplyingAll.{all_edits, counts, equals_some_fix, edit_lists}
use Rattle.miette_fixes.specs.rules.Edits.{FixModel, Replacement}
use Rattle.miette_fixes.specs.steps.EditStarts.{AreEditStarts}
use Rattle.miette_fixes.specs.views.Ordered.{edits_of}
use Rattle.miette_fixes.proofs.Choosing.{chosen_apart, chosen_begun, chosen_else, chosen_free, chosen_last}
use Rattle.miette_fixes.proofs.Choosing.{chosen_start, chosen_then, some_edits}
use Rattle.miette_fixes.proofs.Overlaps.{sorted_fit}
use Rattle.miette_fixes.proofs.Taking.{lists_more}
use Rattle.miette_fixes.proofs.apply_all.apply_all.Goals as goal
use Rattle.miette_fixes.proofs.apply_all.apply_all.Goals.{then-branch+in_ok-begun+in_ok-push+in_ok-push-2}
use Rattle.miette_fixes.proofs.apply_all.apply_all.Goals.{else-branch+in_ok-push-3}
use denote.Ref.{Bor}

pub loop-fix-init : goal.loop-fix-init
loop-fix-init c =
    chosen_start (length c.args.source.now) (edit_lists c.args.fixes.now) _ _ _
    (ap edit_lists c.new-counted.ensures.items)
    c.new-begun.ensures.empty c.in_ok-taken.ensures.items

pub loop-fix-preserved : goal.loop-fix-preserved
loop-fix-preserved c =
    let is = lists_more c.args.fixes.now c.loop-fix.fix-index c.fix-item.result c.loop-fix-test.true c.fix-item.is in
    let before : List (List Replacement) = edit_lists c.loop-fix.counted.items in
    let fix : List Replacement = c.fix-item.result.now.edits in
    let after : List (List Replacement) = edit_lists (drop (c.loop-fix.fix-index + 1) c.args.fixes.now) in
    let begun : AreEditStarts c.loop-fix.begun before =
    chosen_begun (length c.args.source.now) (edit_lists c.args.fixes.now) _ _ before c.loop-fix.begun fix
    c.loop-fix.taken.items c.loop-fix.invariant is in
    let asked : counts (length c.args.source.now) (all_edits before) fix ≡ c.in_ok-counts.field-0 =
    ap (counts (length c.args.source.now) (all_edits before)) (sym c.edits-proposed.ensures)
    ∙ sym (c.in_ok-counts.ensures before begun
    (chosen_apart (length c.args.source.now) (edit_lists c.args.fixes.now) _ before c.loop-fix.begun
    c.loop-fix.taken.items c.loop-fix.invariant)) in
    elim c.if-branch.branch [
      | then-branch+in_ok-begun+in_ok-push+in_ok-push-2 w ↦
          let begins : 0 < length after → AreEditStarts c.if-branch.begun (before ++ fix ∷ []) = λ some.
          let left = chosen_last (length c.args.source.now) (edit_lists c.args.fixes.now) _ after before
          c.loop-fix.begun
          fix c.loop-fix.taken.items c.loop-fix.invariant is some in
          let all = length-map c.args.fixes.now (λ (fix : Bor FixModel). fix.now.edits) in
          let place = w.len-place.ensures ∙ c.loop-fix.taken.ok.0 in
          subst (λ (es : List Replacement). AreEditStarts c.if-branch.begun (before ++ es ∷ []))
          c.edits-proposed.ensures
          (subst (λ b. AreEditStarts b (before ++ c.edits-proposed.result.now ∷ [])) (sym w.begun-is)
          (w.in_ok-begun.ensures
          (lt-ltb w.len-place.result c.saturating_sub-last.result
          (omega (arith, place, left, all, c.saturating_sub-last.ensures)))
          before begun (w.len-number.ensures ∙ c.loop-fix.counted.ok.0
          ∙ sym (length-map c.loop-fix.counted.items (λ (fix : Bor FixModel). fix.now.edits))))) in
          chosen_then (length c.args.source.now) (edit_lists c.args.fixes.now) _ _ before _ c.loop-fix.begun _ fix
          c.loop-fix.taken.items _ c.loop-fix.invariant is (asked ∙ w.if-branch.true) begins
          (ap (λ v. edit_lists v.items) w.counted-is ∙ ap edit_lists w.in_ok-push.ensures.items
          ∙ map-append (λ (fix : Bor FixModel). fix.now.edits) c.loop-fix.counted.items (c.fix-item.result ∷ []))
          (ap (λ v. v.items) w.taken-is ∙ w.in_ok-push-2.ensures.items)
      | else-branch+in_ok-push-3 w ↦
          let met : counts (length c.args.source.now) (all_edits before) fix ≡ false = asked ∙ w.if-branch.false in
          let fixes : edit_lists w.deref.result.now ≡ before =
          ap (λ (fs : List (Bor FixModel)). edit_lists fs) w.deref.ensures.value in
          let among : w.equals_some_fix.result ≡ equals_some_fix fix before =
          w.equals_some_fix.ensures
          (λ none. some_edits (length c.args.source.now) (all_edits before) fix met
          (sym c.edits-proposed.ensures ∙ none))
          (subst (AreEditStarts c.loop-fix.begun) (sym fixes) begun)
          (subst NoTwoConflict (sym fixes) (chosen_free (length c.args.source.now) (edit_lists c.args.fixes.now) _
          before
          c.loop-fix.begun c.loop-fix.taken.items c.loop-fix.invariant))
          ∙ ap (λ es. equals_some_fix es (edit_lists w.deref.result.now)) c.edits-proposed.ensures
          ∙ ap (equals_some_fix fix) fixes in
          chosen_else (length c.args.source.now) (edit_lists c.args.fixes.now) _ _ before _ c.loop-fix.begun _ fix
          c.loop-fix.taken.items _ c.loop-fix.invariant is met (ap (λ v. edit_lists v.items) w.counted-is) w.begun-is
          (ap (λ v. v.items) w.taken-is ∙ w.in_ok-push-3.ensures.items
          ∙ ap (λ b. c.loop-fix.taken.items ++ b ∷ []) among)
    ]

pub splice_edits-requires : goal.splice_edits-requires
splice_edits-requires c =
    sorted_fit (length c.args.source.now) (all_edits (edit_lists c.loop-fix.counted.items))
    (edits_of c.deref-3.result.now)
    (ap edits_of c.deref-3.ensures.value ∙ c.in_ok-edits.ensures
    ∙ ap (λ (fs : List (Bor FixModel)). by_offset (all_edits (edit_lists fs))) c.deref-2.ensures.value)
    c.loop-fix.invariant.fit
