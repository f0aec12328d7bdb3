use Rattle.std.proofs.Common.{arith, None, rules}
use Rattle.miette_tree.specs.views.Report.{tree_of}
use Rattle.miette_tree.proofs.Readings.{one_refused}
use Rattle.miette_lint_program.proofs.CommandSteps.{told_all, told_more}
use Rattle.miette_lint_program.proofs.lint_reports.push_commands.Goals as goal

pub loop-report-preserved : goal.loop-report-preserved
loop-report-preserved g c =
    let l = c.loop-report in
    told_more (tree_of g.D.Diagnostic.meaning g.S.SourceCode.source) c.args.reports.now l.report-index
    c.with_form-handler.result c.report-item.result _ _ _ c.loop-report-test.true c.report-item.is (search rules)
    c.requires.reads c.in_ok-render.ensures.only l.invariant

pub returns-in_err-render-clause-refused : goal.returns-in_err-render-clause-refused
returns-in_err-render-clause-refused g c = λ h.
    one_refused (tree_of g.D.Diagnostic.meaning g.S.SourceCode.source) None c.args.reports.now
    c.loop-report.report-index c.report-item.result c.loop-report-test.true c.report-item.is
    (c.in_err-render.ensures.refused (search rules))

pub returns-clause-ok : goal.returns-clause-ok
returns-clause-ok g c =
    told_all (tree_of g.D.Diagnostic.meaning g.S.SourceCode.source) c.args.reports.now c.loop-report.report-index _ _
    (omega arith) c.loop-report.invariant
