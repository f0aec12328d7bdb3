use Rattle.std.proofs.Common.{◌≡◌, ◌∙◌, ap, arith, drop, sym}
use Rattle.miette_read_shellcheck.specs.rules.Columns.{nth_line_start}
use Rattle.miette_read_shellcheck.proofs.ColumnSteps.{next_line, no_line}
use Rattle.miette_read_shellcheck.proofs.columns.nth_line_start.Goals as goal

pub loop-left-preserved : goal.loop-left-preserved
loop-left-preserved c =
    let l = c.loop-left in
    record {
      within = omega (arith, c.in-Some.ensures.within);
      same = l.invariant.same
          ∙ next_line c.args.bytes.now l.at l.left c.in-Some.size c.loop-left-test.true c.in-Some.ensures.first;
    }

pub returns-in-None-clause-value : goal.returns-in-None-clause-value
returns-in-None-clause-value c =
    let l = c.loop-left in
    sym (l.invariant.same ∙ no_line c.args.bytes.now l.at l.left c.loop-left-test.true c.in-None.ensures.first)

pub returns-clause-value : goal.returns-clause-value
returns-clause-value c =
    let l = c.loop-left in
    let none : l.left ≡ 0 = omega (arith, c.loop-left-test.false) in
    sym (l.invariant.same ∙ ap (nth_line_start l.at (drop l.at c.args.bytes.now)) none)
