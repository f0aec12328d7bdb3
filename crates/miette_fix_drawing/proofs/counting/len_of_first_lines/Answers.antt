use Rattle.miette_fix_drawing.proofs.LineCounts.{sized, whole_more}
use Rattle.miette_fix_drawing.proofs.counting.len_of_first_lines.Goals as goal

pub loop-left-preserved : goal.loop-left-preserved
loop-left-preserved c = record {
  told = sized c.loop-left.rest.now c.first_line-line.result c.loop-left.size c.loop-left.left _
      c.first_line-line.ensures c.loop-left-test.true c.loop-left.invariant.told;
  whole = whole_more c.loop-left.rest.now c.first_line-line.result c.loop-left.size _ c.first_line-line.ensures
      c.loop-left.invariant.whole;
}
