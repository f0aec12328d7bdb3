use Rattle.std.proofs.Common.{arith}
use Rattle.miette_runs.specs.rules.Sequences.{is_line_feed}
use Rattle.miette_lines.proofs.Blocks.{passed, stopped}
use Rattle.miette_text.proofs.wrapping.line_feeds.row_len.Goals as goal

pub returns-then-feeds-ne0 : goal.returns-then-feeds-ne0
returns-then-feeds-ne0 c =
    let first = stopped is_line_feed c.args.bytes.now c.loop-len.len 16 c.feeds_in-feeds.result (omega arith)
    (omega arith) c.feeds_in-feeds.ensures (omega arith) c.loop-len.invariant
    in
    omega (arith, first)

pub loop-len-preserved : goal.loop-len-preserved
loop-len-preserved c =
    passed is_line_feed c.args.bytes.now c.loop-len.len 16 c.feeds_in-feeds.result (omega arith)
    c.feeds_in-feeds.ensures (omega arith) c.loop-len.invariant
