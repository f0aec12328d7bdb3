use Rattle.miette_snippet_rules.specs.declared.line_scan.LineScan.{LineScan}
use Rattle.miette_snippet_rules.proofs.PassedCells.{passed_plain, width_plain}
use Rattle.miette_snippet_rules.proofs.line_scan.pass_plain.Goals as goal

pub returns-in_ok-passage-2-clause-passed : goal.returns-in_ok-passage-2-clause-passed
returns-in_ok-passage-2-clause-passed c = λ cells h.
    let new : LineScan = record {
      walk = c.pass_plain.new.self;
      reached = c.in_ok-passage.field-0;
      width = c.in_ok-passage-2.field-0;
    } in
    passed_plain cells c.in_ok-plain.plain c.args.passage.now new c.in_ok-plain.ensures.passed c.if-plain-gt0.true
    c.in_ok-passage.ensures h

pub returns-in_ok-passage-2-clause-width : goal.returns-in_ok-passage-2-clause-width
returns-in_ok-passage-2-clause-width c =
    width_plain c.in_ok-plain.plain c.args.passage.now.walk c.pass_plain.new.self c.args.passage.now.width
    c.in_ok-passage-2.field-0 c.in_ok-plain.ensures.passed c.if-plain-gt0.true c.in_ok-passage-2.ensures
