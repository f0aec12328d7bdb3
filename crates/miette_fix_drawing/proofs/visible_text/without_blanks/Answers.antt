use Rattle.std.proofs.Common.{◌∙◌, arith}
use Rattle.miette_fix_drawing.proofs.Blanks.{blank_off, none_left, other_kept}
use Rattle.miette_fix_drawing.proofs.visible_text.without_blanks.Goals as goal
use Rattle.miette_fix_drawing.proofs.visible_text.without_blanks.Goals.{then-loop-len-test+else-seen-len-eq32}
use Rattle.miette_fix_drawing.proofs.visible_text.without_blanks.Goals.{else-loop-len-test}

pub loop-len-preserved : goal.loop-len-preserved
loop-len-preserved c = record {
  within = omega (arith, c.loop-len.invariant.within);
  told = blank_off c.args.seen.now c.index-seen-len.result c.loop-len.len c.loop-len-test.true
      c.loop-len.invariant.within c.index-seen-len.is c.if-seen-len-eq32.true ∙ c.loop-len.invariant.told;
}

pub returns : goal.returns
returns c =
    elim c.loop-len-test.branch [
      | then-loop-len-test+else-seen-len-eq32 w ↦
          other_kept c.args.seen.now w.index-seen-len.result c.loop-len.len w.loop-len-test.true
          c.loop-len.invariant.within w.index-seen-len.is w.if-seen-len-eq32.false ∙ c.loop-len.invariant.told
      | else-loop-len-test w ↦
          none_left c.args.seen.now c.loop-len.len w.loop-len-test.false ∙ c.loop-len.invariant.told
    ]
