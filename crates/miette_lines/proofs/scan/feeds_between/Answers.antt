use Rattle.std.proofs.Common.{◌≡◌, ◌+◌, ap, ◌∙◌, arith}
use Rattle.miette_lines.specs.rules.Lines.{line_of}
use Rattle.miette_lines.proofs.Feeds.{none_yet, one_more}
use Rattle.miette_lines.proofs.scan.feeds_between.Goals as goal

pub loop-i-init : goal.loop-i-init
loop-i-init c = none_yet c.args.bytes.now c.args.from (c.args.from + 0) (omega arith)

pub loop-i-preserved : goal.loop-i-preserved
loop-i-preserved c =
    one_more c.args.bytes.now c.args.from (c.args.from + c.loop-i.i) (c.args.from + (c.loop-i.i + 1)) c.loop-i.feeds
    c.loop-i.returns c.count_if-feed.result c.count_if-back.result (omega arith) (omega arith) c.loop-i.invariant
    c.count_if-feed.ensures.count c.count_if-back.ensures.count

pub returns-clause-count : goal.returns-clause-count
returns-clause-count c =
    let end : c.args.from + c.loop-i.i ≡ c.args.to = omega arith in
    c.loop-i.invariant.count (omega arith) ∙ ap (line_of c.args.bytes.now) end
