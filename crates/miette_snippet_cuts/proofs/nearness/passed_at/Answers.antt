use Rattle.std.proofs.Common.{arith}
use Rattle.miette_snippet_cuts.proofs.NearEnds.{ahead_here, ahead_none, passed_more}
use Rattle.miette_snippet_cuts.proofs.nearness.passed_at.Goals as goal

pub loop-at-preserved : goal.loop-at-preserved
loop-at-preserved c = passed_more c.args.reach c.args.ends.now c.loop-at.at c.args.column 0 c.loop-at-test.true
    (omega (arith, c.if-away-reach.false, c.saturating_sub-away.ensures)) c.loop-at.invariant

pub returns-then-away-reach-clause-found : goal.returns-then-away-reach-clause-found
returns-then-away-reach-clause-found c = ahead_here c.args.reach c.args.ends.now c.loop-at.at c.args.column 0
    c.loop-at-test.true (omega (arith, c.if-away-reach.true, c.saturating_sub-away.ensures)) c.loop-at.invariant

pub returns-clause-found : goal.returns-clause-found
returns-clause-found c = ahead_none c.args.reach c.args.ends.now c.loop-at.at c.args.column c.loop-at-test.false
    c.loop-at.invariant
