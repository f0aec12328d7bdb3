use Rattle.std.proofs.Common.{refl, arith}
use Rattle.miette_fix_rows.proofs.Texts.{left_more, lines_end, lines_more}
use Rattle.miette_fix_rows.proofs.line_lists.lines.Goals as goal

pub loop-left-preserved : goal.loop-left-preserved
loop-left-preserved c = record {
  left = left_more c.loop-left.left c.first_line-line.result.end c.loop-left.rest.now c.loop-left.invariant.left;
  lines = lines_more c.loop-left.list.items c.push.new.self.items _ c.loop-left.rest.now c.args.bytes.now
      c.first_line-line.result c.first_line-line.ensures c.in_ok-push.ensures.items refl c.loop-left.invariant.lines;
}

pub returns : goal.returns
returns c = lines_end c.loop-left.list.items c.loop-left.rest.now c.args.bytes.now
    (omega (arith, c.loop-left.invariant.left, c.loop-left-test.false)) c.loop-left.invariant.lines
