use Rattle.std.proofs.Common.{ℕ, ◌+◌, ◌<◌, ◌≡◌, Bool, true, false, ltb, List, [], ◌∷◌, ◌++◌, get_or, drop, length, sym}
use Rattle.std.proofs.Common.{ap, ◌∙◌, append_assoc}
use Rattle.std.specs.List.{filter}
use Rattle.std.proofs.lemmas.Bool.{cond-true, cond-false, lt-ltb, le-ltb}
use Rattle.std.proofs.lemmas.List.{at_drop_more}
use Rattle.miette_narrated.specs.declared.label_order.RankedLabel.{RankedLabel}
use Rattle.miette_narrated.proofs.label_order.begun_before.Goals.{then-end-place+in_ok-push, else-end-place}
use Rattle.miette_narrated.proofs.label_order.begun_before.Goals as goal

module _ (p : RankedLabel → Bool) (ends kept : List RankedLabel) (i : ℕ) (d : RankedLabel) (inside : i < length ends)
    (was : kept ++ filter p (drop i ends) ≡ filter p ends) where
  one_kept : (new : List RankedLabel) → p (get_or ends i d) ≡ true → new ≡ kept ++ get_or ends i d ∷ [] → new
      ++ filter p (drop (i + 1) ends) ≡ filter p ends
  one_kept new passes is =
      let end = get_or ends i d in
      let rest = filter p (drop (i + 1) ends) in
      ap (λ (xs : List RankedLabel). xs ++ rest) is ∙ append_assoc kept (end ∷ []) rest
      ∙ ap (λ (xs : List RankedLabel). kept ++ xs) (sym (cond-true (p end) (end ∷ rest) rest passes))
      ∙ sym (at_drop_more (λ ps. kept ++ filter p ps) ends i d inside) ∙ was

  one_left : (new : List RankedLabel) → p (get_or ends i d) ≡ false → new ≡ kept → new ++ filter p (drop (i + 1) ends)
      ≡ filter p ends
  one_left new fails is =
      let end = get_or ends i d in
      let rest = filter p (drop (i + 1) ends) in
      ap (λ (xs : List RankedLabel). xs ++ rest) is
      ∙ ap (λ (xs : List RankedLabel). kept ++ xs) (sym (cond-false (p end) (end ∷ rest) rest fails))
      ∙ sym (at_drop_more (λ ps. kept ++ filter p ps) ends i d inside) ∙ was

pub loop-end-preserved : goal.loop-end-preserved
loop-end-preserved c =
    let l = c.loop-end in
    let place = c.args.place in
    let p : RankedLabel → Bool = λ end. ltb end.label.start place in
    elim c.if-end-place.branch [
      | then-end-place+in_ok-push w ↦
          one_kept p c.args.ends.now l.kept.items l.end-index _ c.loop-end-test.true l.invariant
          c.if-end-place.kept.items (lt-ltb _ _ w.if-end-place.true)
          (ap (λ v. v.items) w.kept-is ∙ w.in_ok-push.ensures.items)
      | else-end-place w ↦ one_left p c.args.ends.now l.kept.items l.end-index _ c.loop-end-test.true l.invariant
          c.if-end-place.kept.items (le-ltb _ _ w.if-end-place.false) (ap (λ v. v.items) w.kept-is)
    ]
