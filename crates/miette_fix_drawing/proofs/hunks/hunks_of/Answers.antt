use Rattle.std.proofs.Common.{◌+◌, ◌-◌, ◌<◌, ◌≡◌, ◌++◌, length, drop, take, refl, sym, ap, ◌∙◌, subst, arith}
use Rattle.std.proofs.lemmas.List.{drop-drop, length-drop, take_all}
use Rattle.miette_fix_rows.specs.rules.Hunks.{diff_from}
use Rattle.miette_fix_drawing.specs.steps.Rising.{AreRising, joined, joined_end}
use Rattle.miette_fix_drawing.specs.views.Hunks.{hunks_of}
use Rattle.miette_fix_drawing.proofs.HunkLists.{after_put, first_from, first_within, from_first, hunk_put, rising_put}
use Rattle.miette_fix_drawing.proofs.HunkPlaces.{stand_put}
use Rattle.miette_fix_drawing.proofs.hunks.hunks_of.Goals as goal

pub loop-low-preserved : goal.loop-low-preserved
loop-low-preserved c =
    let source = c.args.source.now in
    let all = c.args.changes.now in
    let low = c.loop-low.low in
    let n = c.joined-many.result.0 in
    let xs = drop low all in
    let long : length xs ≡ length all - low = length-drop low all in
    let some : 0 < length xs = omega (arith, long, c.loop-low-test.true) in
    let f : c.start-from.result ≡ first_from xs =
    c.start-from.ensures ∙ ap (λ x. x.from) c.index-changes-low.is ∙ from_first all low _ c.loop-low-test.true in
    let more : drop n xs ≡ drop (low + n) all = drop-drop n low all in
    let e : low + n - low ≡ n = omega arith in
    let rest : take (length all - low) xs ≡ xs = take_all (length all - low) xs (omega (arith, long)) in
    let many : n ≡ joined c.start-from.result xs =
    c.joined-many.ensures.many ∙ ap (joined c.start-from.result) rest in
    let last : c.joined-many.result.1 ≡ joined_end c.start-from.result xs =
    c.joined-many.ensures.end ∙ ap (joined_end c.start-from.result) rest in
    let first = first_within (length source) c.loop-low.at xs c.loop-low.invariant.rising some in
    record {
      within = omega (arith, long, c.joined-many.ensures.within, c.loop-low.invariant.within);
      rising = subst (AreRising (length source) c.joined-many.result.1) more
          (rising_put (length source) c.loop-low.at c.start-from.result n c.joined-many.result.1 xs
          c.loop-low.invariant.rising some f many last);
      hunks = ap (λ cs. hunks_of c.push.new.self.items ++ (diff_from source c.joined-many.result.1 cs).hunks) (sym more)
          ∙ hunk_put source c.loop-low.at c.start-from.result n c.joined-many.result.1 xs c.loop-low.list.items
          c.push.new.self.items _ (diff_from source 0 all) c.loop-low.invariant.rising some f many last refl
          (ap (λ k. take k xs) e) c.in_ok-push.ensures.items c.loop-low.invariant.hunks;
      stand = stand_put source c.loop-low.at c.start-from.result c.loop-low.list.items c.push.new.self.items _
          (omega (arith, first.0, f)) (omega (arith, first.1, f)) refl refl c.loop-low.invariant.stand
          c.in_ok-push.ensures.items;
      behind = ap (λ cs. (diff_from source c.joined-many.result.1 cs).after_hunks) (sym more)
          ∙ after_put source c.loop-low.at c.start-from.result n c.joined-many.result.1 xs (diff_from source 0 all)
          c.loop-low.invariant.rising some f many last
          c.loop-low.invariant.behind;
    }
