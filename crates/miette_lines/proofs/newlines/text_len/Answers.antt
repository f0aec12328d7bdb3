use Rattle.std.proofs.Common.{arith}
use Rattle.memchr.specs.Find.{is_byte2}
use Rattle.miette_lines.proofs.Blocks.{passed, stopped}
use Rattle.miette_lines.proofs.newlines.text_len.Goals as goal

pub returns-then-found-ne0 : goal.returns-then-found-ne0
returns-then-found-ne0 c =
    let first = stopped (is_byte2 10 13) c.args.bytes.now c.loop-len.len 64 c.newlines_in-found.result (omega arith)
    (omega arith) c.newlines_in-found.ensures (omega arith) c.loop-len.invariant
    in
    omega (arith, first)

pub loop-len-preserved : goal.loop-len-preserved
loop-len-preserved c =
    passed (is_byte2 10 13) c.args.bytes.now c.loop-len.len 64 c.newlines_in-found.result (omega arith)
    c.newlines_in-found.ensures (omega arith) c.loop-len.invariant
