use Rattle.std.proofs.Common.{length, arith, rules}
use Rattle.miette_lint.specs.rules.Fixes.{wide_line}
use Rattle.miette_lint.proofs.FindingSteps.{given_line}
use Rattle.miette_lint.proofs.LeftSteps.{count_first, count_more, count_none}
use Rattle.miette_lint.proofs.remaining.wide_count.Goals as goal

pub loop-line-init : goal.loop-line-init
loop-line-init c = count_first (wide_line c.args.source.now c.args.width) _ c.args.source.now (search rules)

pub wide_count_in-requires : goal.wide_count_in-requires
wide_count_in-requires c =
    let given = given_line c.loop-line.line-iterator c.next.new.self _ _ c.in-Some.is c.next.ensures.steps in
    record { text = given.0.text; within = omega (arith, given.0.ending, given.0.to, c.loop-line.invariant.to) }

pub loop-line-preserved : goal.loop-line-preserved
loop-line-preserved c =
    count_more (wide_line c.args.source.now c.args.width) (length c.args.source.now) c.loop-line.line-iterator
    c.next.new.self _ c.in-Some.line c.loop-line.count _ _ c.loop-line.invariant c.in-Some.is c.next.ensures.steps
    c.in_ok-count.ensures.count c.in_ok-count.ensures.one

pub returns : goal.returns
returns c =
    count_none (wide_line c.args.source.now c.args.width) (length c.args.source.now) c.loop-line.line-iterator _ _
    c.loop-line.count _ c.loop-line.invariant c.in-None.is c.next.ensures.steps
