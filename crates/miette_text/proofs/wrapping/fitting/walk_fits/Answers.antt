use Rattle.std.proofs.Common.{◌≡◌, ◌∙◌, arith, chars, false, length, sym, true}
use Rattle.std.proofs.lemmas.Bool.Decides.{nat_tests}
use Rattle.std.proofs.lemmas.Iterator.{YieldsList-from_chars}
use Rattle.std.proofs.lemmas.Iterator.Consumers.{YieldsList-turn, YieldsList-end}
use Rattle.std.proofs.lemmas.List.{length_push}
use Rattle.miette_text.proofs.Fitting.{apart-fits_at, end-fits, is_apart, next-fits_at, wide-fits_at}
use Rattle.miette_text.proofs.wrapping.fitting.walk_fits.Goals as goal
use Rattle.miette_text.proofs.wrapping.fitting.walk_fits.Goals.{then-c-eq27-via-then-c-eq27}
use Rattle.miette_text.proofs.wrapping.fitting.walk_fits.Goals.{then-c-eq27-via-else-c-eq27+then-c-eq10}
use Rattle.miette_text.proofs.wrapping.fitting.walk_fits.Goals.{
  then-c-eq27-via-else-c-eq27+else-c-eq10+then-left-columns,
}

pub returns-then-c-eq27 : goal.returns-then-c-eq27
returns-then-c-eq27 c =
    let cs = chars c.args.text.now in
    let x = c.in-Some.c in
    let t = YieldsList-turn (YieldsList-from_chars c.args.text.now c.utf8.text cc) c.loop-c.yielded _
    c.loop-c.yielded_by _ _ x c.in-Some.is c.next.ensures.steps in
    let n = length c.loop-c.yielded in
    elim c.then-c-eq27.branch [
      | then-c-eq27-via-then-c-eq27 w ↦
          let h : is_apart x ≡ true = (let e = w.if-c-eq27.true in grind (arith, nat_tests)) in
          sym (c.loop-c.invariant ∙ apart-fits_at c.loop-c.left c.loop-c.bare cs n x t h)
      | then-c-eq27-via-else-c-eq27+then-c-eq10 w ↦
          let h : is_apart x ≡ true = (let e = w.if-c-eq10.true in grind (arith, nat_tests)) in
          sym (c.loop-c.invariant ∙ apart-fits_at c.loop-c.left c.loop-c.bare cs n x t h)
      | then-c-eq27-via-else-c-eq27+else-c-eq10+then-left-columns w ↦
          sym (c.loop-c.invariant ∙ wide-fits_at c.loop-c.left c.loop-c.bare cs n x c.char_columns-columns.result t
          c.char_columns-columns.ensures w.if-left-columns.true)
    ]

pub loop-c-preserved : goal.loop-c-preserved
loop-c-preserved c =
    let x = c.in-Some.c in
    let t = YieldsList-turn (YieldsList-from_chars c.args.text.now c.utf8.text cc) c.loop-c.yielded _
    c.loop-c.yielded_by _ _ x c.in-Some.is c.next.ensures.steps in
    let h : is_apart x ≡ false = (let e = c.if-c-eq27.false in let f = c.if-c-eq10.false in grind (arith, nat_tests)) in
    c.loop-c.invariant
    ∙ next-fits_at c.loop-c.left c.loop-c.bare (chars c.args.text.now) (length c.loop-c.yielded) x
    c.char_columns-columns.result _ t c.char_columns-columns.ensures h c.if-left-columns.false
    (length_push c.loop-c.yielded x)

pub returns : goal.returns
returns c =
    let end = YieldsList-end (YieldsList-from_chars c.args.text.now c.utf8.text cc) c.loop-c.yielded _
    c.loop-c.yielded_by _ _ c.in-None.is c.next.ensures.steps in
    sym (c.loop-c.invariant ∙ end-fits c.loop-c.left c.loop-c.bare (chars c.args.text.now) (length c.loop-c.yielded)
    (omega (arith, end.1)))
