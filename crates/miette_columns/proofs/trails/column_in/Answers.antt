use Rattle.std.proofs.Common.{arith}
use Rattle.miette_columns.proofs.Running.{trail_here, trail_within}
use Rattle.miette_columns.proofs.trails.column_in.Goals as goal

pub returns-then-bytes-next : goal.returns-then-bytes-next
returns-then-bytes-next c =
    trail_within c.args.text.now c.loop-trail.trail c.args.bytes c.loop-trail.invariant.trail c.loop-trail-test.true
    c.loop-trail.invariant.within (omega (arith, c.after_first-next.ensures.bytes, c.if-bytes-next.true))

pub returns : goal.returns
returns c = trail_here c.args.text.now c.loop-trail.trail c.args.bytes c.loop-trail.invariant.trail
    (omega (arith, c.loop-trail-test.false, c.loop-trail.invariant.before)) c.loop-trail.invariant.within
