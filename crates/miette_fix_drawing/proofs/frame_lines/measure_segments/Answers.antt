use Rattle.std.proofs.Common.{◌∙◌, arith}
use Rattle.miette_fix_drawing.specs.views.DiffPositions.{diff_position_of}
use Rattle.miette_fix_drawing.proofs.Framing.{largest_of_segments, most_end, past_end, past_of_segments}
use Rattle.miette_fix_drawing.proofs.frame_lines.measure_segments.Goals as goal

pub returns-clause-behind : goal.returns-clause-behind
returns-clause-behind c =
    past_end (diff_position_of c.loop-segment.at) _ c.args.list.now c.loop-segment.segment-index
    (omega (arith, c.loop-segment-test.false, c.loop-segment.auto.segment-index-end)) c.loop-segment.invariant.behind
    ∙ past_of_segments (diff_position_of c.args.at.now) c.args.list.now

pub returns-clause-most : goal.returns-clause-most
returns-clause-most c =
    most_end (diff_position_of c.loop-segment.at) c.args.list.now c.loop-segment.segment-index c.loop-segment.most _
    (omega (arith, c.loop-segment-test.false, c.loop-segment.auto.segment-index-end)) c.loop-segment.invariant.most
    ∙ largest_of_segments (diff_position_of c.args.at.now) c.args.list.now
