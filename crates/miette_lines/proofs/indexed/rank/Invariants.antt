use Rattle.std.proofs.Common.{ℕ, ◌<◌, ◌≤◌, ◌+◌, ◌-◌, ◌*◌, ◌^◌, length, slice_index}
use Rattle.miette_lines.proofs.indexed.rank.Given as goal

abbrev pub invariant-loop-low : goal.invariant-loop-low
invariant-loop-low l = record {
  order : l.low ≤ l.high;
  within : l.high ≤ length l.ends;
  short : length l.ends < 2 ^ 64;
  below : (k : ℕ) → k < l.low → slice_index l.ends k ≤ l.offset;
  above : (k : ℕ) → l.high ≤ k → k < length l.ends → l.offset < slice_index l.ends k;
  looks : 2 ^ l.looks ≤ 2 * length l.ends + 1;
  halves : l.low < l.high → 2 ^ l.looks * (l.high - l.low) ≤ length l.ends;
}

abbrev pub decreases-loop-low : goal.decreases-loop-low
decreases-loop-low l = l.high - l.low
