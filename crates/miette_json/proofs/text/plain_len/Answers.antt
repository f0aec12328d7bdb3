use Rattle.std.proofs.Common.{arith}
use Rattle.miette_json.specs.steps.EscapedBytes.{is_escaped}
use Rattle.miette_lines.proofs.Blocks.{passed, stopped}
use Rattle.miette_json.proofs.text.plain_len.Goals as goal

pub returns-then-escapes-ne0 : goal.returns-then-escapes-ne0
returns-then-escapes-ne0 c =
    let first = stopped is_escaped c.args.bytes.now c.loop-len.len 16 c.escapes_in-escapes.result (omega arith)
    (omega arith) c.escapes_in-escapes.ensures (omega arith) c.loop-len.invariant
    in
    omega (arith, first)

pub loop-len-preserved : goal.loop-len-preserved
loop-len-preserved c =
    passed is_escaped c.args.bytes.now c.loop-len.len 16 c.escapes_in-escapes.result (omega arith)
    c.escapes_in-escapes.ensures (omega arith) c.loop-len.invariant
