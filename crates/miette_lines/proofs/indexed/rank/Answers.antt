use Rattle.std.proofs.Common.{◌+◌, ◌-◌, ◌/◌, ◌≤◌, length, slice_index, arith}
use Rattle.miette_lines.proofs.BinarySearch.{few_looks, one_more_look, half_left}
use Rattle.miette_lines.proofs.indexed.rank.Goals as goal

pub look-requires-clause-few : goal.look-requires-clause-few
look-requires-clause-few c =
    few_looks c.loop-low.looks (c.loop-low.high - c.loop-low.low) (length c.args.ends.now)
    (c.loop-low.invariant.halves c.loop-low-test.true) (omega arith) c.loop-low.invariant.short

pub loop-low-preserved-then-look-offset : goal.loop-low-preserved-then-look-offset
loop-low-preserved-then-look-offset c =
    record {
      order = omega arith;
      within = c.loop-low.invariant.within;
      short = c.loop-low.invariant.short;
      below = λ k h.
          (let a : slice_index c.args.ends.now k ≤ slice_index c.args.ends.now
          (c.loop-low.low + (c.loop-low.high - c.loop-low.low) / 2) =
          c.requires k (c.loop-low.low + (c.loop-low.high - c.loop-low.low) / 2) (omega (arith, h)) (omega arith) in
          omega (arith, a, c.look.ensures.end, c.if-look-offset.true));
      above = c.loop-low.invariant.above;
      looks = one_more_look c.loop-low.looks c.look.new.looks (c.loop-low.high - c.loop-low.low)
          (length c.args.ends.now) c.look.ensures.counted (c.loop-low.invariant.halves c.loop-low-test.true)
          (omega arith);
      halves = λ h. half_left c.loop-low.looks c.look.new.looks (c.loop-low.high - c.loop-low.low)
          (c.loop-low.high - (c.loop-low.low + (c.loop-low.high - c.loop-low.low) / 2 + 1)) (length c.args.ends.now)
          c.look.ensures.counted (c.loop-low.invariant.halves c.loop-low-test.true) (omega arith);
    }

pub loop-low-preserved : goal.loop-low-preserved
loop-low-preserved c = record {
  order = omega arith;
  within = omega arith;
  short = c.loop-low.invariant.short;
  below = c.loop-low.invariant.below;
  above = λ k h g.
      (let a : slice_index c.args.ends.now (c.loop-low.low + (c.loop-low.high - c.loop-low.low) / 2)
      ≤ slice_index c.args.ends.now k = c.requires (c.loop-low.low + (c.loop-low.high - c.loop-low.low) / 2) k h g
      in
      omega (arith, a, c.look.ensures.end, c.if-look-offset.false));
  looks = one_more_look c.loop-low.looks c.look.new.looks (c.loop-low.high - c.loop-low.low) (length c.args.ends.now)
      c.look.ensures.counted (c.loop-low.invariant.halves c.loop-low-test.true) (omega arith);
  halves = λ h. half_left c.loop-low.looks c.look.new.looks (c.loop-low.high - c.loop-low.low)
      (c.loop-low.low + (c.loop-low.high - c.loop-low.low) / 2 - c.loop-low.low) (length c.args.ends.now)
      c.look.ensures.counted (c.loop-low.invariant.halves c.loop-low-test.true) (omega arith);
}
