use Rattle.std.proofs.Common.{◌∙◌, arith}
use Rattle.miette_fix_drawing.proofs.Blanks.{blank_at, none_left, other_at}
use Rattle.miette_fix_drawing.proofs.visible_text.without_spaces.Goals as goal
use Rattle.miette_fix_drawing.proofs.visible_text.without_spaces.Goals.{then-loop-len-test+else-text-len-eq32}
use Rattle.miette_fix_drawing.proofs.visible_text.without_spaces.Goals.{else-loop-len-test}

pub loop-len-preserved : goal.loop-len-preserved
loop-len-preserved c = record {
  within = omega (arith, c.loop-len.invariant.within);
  told = blank_at c.args.text.now 0 c.loop-len.len c.loop-len-test.true c.loop-len.invariant.within
      c.if-text-len-eq32.true ∙ c.loop-len.invariant.told;
}

pub returns : goal.returns
returns c =
    elim c.loop-len-test.branch [
      | then-loop-len-test+else-text-len-eq32 w ↦
          other_at c.args.text.now 0 c.loop-len.len w.loop-len-test.true c.loop-len.invariant.within
          w.if-text-len-eq32.false ∙ c.loop-len.invariant.told
      | else-loop-len-test w ↦
          none_left c.args.text.now c.loop-len.len w.loop-len-test.false ∙ c.loop-len.invariant.told
    ]
