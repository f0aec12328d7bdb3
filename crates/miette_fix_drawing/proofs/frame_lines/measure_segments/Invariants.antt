use Rattle.std.proofs.Common.{◌≡◌, max, drop}
use Rattle.miette_fix_drawing.specs.steps.Passing.{largest_segments, past_segments}
use Rattle.miette_fix_drawing.specs.views.DiffPositions.{diff_position_of}
use Rattle.miette_fix_drawing.proofs.frame_lines.measure_segments.Given as goal

abbrev pub invariant-loop-segment : goal.invariant-loop-segment
invariant-loop-segment l = record {
  behind : past_segments (diff_position_of l.at) (drop l.segment-index l.list)
      ≡ past_segments (diff_position_of l.fn.at) l.list;
  most : max l.most (largest_segments (diff_position_of l.at) (drop l.segment-index l.list))
      ≡ largest_segments (diff_position_of l.fn.at) l.list;
}
