use Rattle.miette_lint.specs.views.Found.{coded_of}
use Rattle.miette_tree.specs.views.Report.{tree_of}
use Rattle.miette_lint_program.proofs.LogSteps.{one_reported}
use Rattle.miette_lint_program.proofs.lint_reports.reports_of.Goals as goal

pub loop-finding-preserved : goal.loop-finding-preserved
loop-finding-preserved g c =
    let l = c.loop-finding in
    one_reported (tree_of g.D.Diagnostic.meaning g.S.SourceCode.source) coded_of l.yielded c.in-Some.finding
    c.in_ok-report.report l.reports.items _ l.invariant c.in_ok-report.ensures c.in_ok-push.ensures.items
