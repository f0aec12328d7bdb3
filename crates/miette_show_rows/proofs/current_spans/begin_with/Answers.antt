use Rattle.std.proofs.Common.{◌∙◌, arith, rules}
use Rattle.miette_show_rows.proofs.Lists.{begins_all, begins_not, begins_on}
use Rattle.miette_show_rows.proofs.current_spans.begin_with.Goals as goal

pub loop-row-preserved : goal.loop-row-preserved
loop-row-preserved c =
    let l = c.loop-row in
    begins_on c.args.rows.now l.row-index c.row-item.result l.rest.now c.loop-row-test.true c.row-item.is
    c.in-Some.after.now (search rules) ∙ l.invariant

pub returns-in-None : goal.returns-in-None
returns-in-None c =
    let l = c.loop-row in
    begins_not c.args.rows.now l.row-index c.row-item.result l.rest.now c.loop-row-test.true c.row-item.is
    (search rules) ∙ l.invariant

pub returns : goal.returns
returns c =
    begins_all c.args.rows.now c.loop-row.row-index c.loop-row.rest.now (omega (arith, c.loop-row-test.false))
    ∙ c.loop-row.invariant
