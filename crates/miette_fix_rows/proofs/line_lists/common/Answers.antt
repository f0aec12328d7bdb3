use Rattle.std.proofs.Common.{◌≡◌, ◌∙◌, sym, arith}
use Rattle.miette_fix_rows.proofs.Commons.{side_ends, side_goes_on, side_stops}
use Rattle.miette_fix_rows.proofs.line_lists.common.Goals as goal

pub returns-then-not-are_same-clause-common : goal.returns-then-not-are_same-clause-common
returns-then-not-are_same-clause-common c =
    side_stops c.args.side c.loop-i.i c.args.lines.now c.args.others.now c.line_from-line.result.now
    c.line_from-other.result.now (omega (arith, c.loop-i-test.true, c.min-most.ensures)) c.line_from-line.ensures
    c.line_from-other.ensures (sym c.are_same.ensures ∙ c.if-not-are_same.true) c.loop-i.invariant

pub loop-i-preserved : goal.loop-i-preserved
loop-i-preserved c =
    side_goes_on c.args.side c.loop-i.i c.args.lines.now c.args.others.now c.line_from-line.result.now
    c.line_from-other.result.now (omega (arith, c.loop-i-test.true, c.min-most.ensures)) c.line_from-line.ensures
    c.line_from-other.ensures (sym c.are_same.ensures ∙ c.if-not-are_same.false) c.loop-i.invariant

pub returns-clause-common : goal.returns-clause-common
returns-clause-common c =
    let e : c.loop-i.i ≡ c.min-most.result = omega (arith, c.loop-i-test.false, c.loop-i.auto.i-end) in
    sym e ∙ side_ends c.args.side c.loop-i.i c.args.lines.now c.args.others.now (e ∙ c.min-most.ensures)
    c.loop-i.invariant
