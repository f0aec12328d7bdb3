use Rattle.std.proofs.Common.{◌∙◌, arith, sym}
use Rattle.miette_text.proofs.PrintableBlocks.{all_passed, byte_other, byte_passed, other_found, plain_passed}
use Rattle.miette_text.proofs.wrapping.printable.is_printable.Goals as goal

pub returns-then-others-ne0 : goal.returns-then-others-ne0
returns-then-others-ne0 c =
    sym (other_found c.args.bytes.now c.loop-len.len 16 (omega (arith, c.others_in-others.ensures)))
    ∙ c.loop-len.invariant.told

pub loop-len-preserved : goal.loop-len-preserved
loop-len-preserved c = record {
  within = omega arith;
  told = sym (plain_passed c.args.bytes.now c.loop-len.len 16 (omega (arith, c.others_in-others.ensures)))
      ∙ c.loop-len.invariant.told;
}

pub returns-then-is_other : goal.returns-then-is_other
returns-then-is_other c =
    sym (byte_other c.args.bytes.now c.loop-len-2.len (omega arith) (sym c.is_other.ensures ∙ c.if-is_other.true))
    ∙ c.loop-len-2.invariant.told

pub loop-len-2-preserved : goal.loop-len-2-preserved
loop-len-2-preserved c = record {
  within = omega arith;
  told = sym (byte_passed c.args.bytes.now c.loop-len-2.len (omega arith)
      (sym c.is_other.ensures ∙ c.if-is_other.false)) ∙ c.loop-len-2.invariant.told;
}

pub returns : goal.returns
returns c = sym (all_passed c.args.bytes.now c.loop-len-2.len (omega arith)) ∙ c.loop-len-2.invariant.told
