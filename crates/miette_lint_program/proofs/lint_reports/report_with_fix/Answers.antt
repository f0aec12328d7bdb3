use Rattle.miette_tree.specs.views.Report.{tree_of}
use Rattle.miette_lint_program.proofs.DiffSteps.{tree_made}
use Rattle.miette_lint_program.proofs.lint_reports.report_with_fix.Goals as goal

pub returns : goal.returns
returns g c =
    let check = c.args.check.now in
    tree_made (tree_of g.D.Diagnostic.meaning g.S.SourceCode.source) c.with_fix.result _ _ check.name.now
    c.args.source.items _ c.args.found.items check.width _ c.in_ok-report.ensures c.in_ok-diagnostic.ensures
    c.as_slice.ensures.value c.in_ok-fix.ensures c.with_fix.ensures.tree
