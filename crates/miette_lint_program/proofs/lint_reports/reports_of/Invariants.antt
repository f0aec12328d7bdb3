use Rattle.std.proofs.Common.{◌≡◌, map}
use Rattle.miette_lint.specs.views.Found.{coded_of}
use Rattle.miette_tree.specs.views.Report.{tree_of}
use Rattle.miette_lint_program.specs.rules.Logs.{finding_tree}
use Rattle.miette_lint_program.proofs.lint_reports.reports_of.Given as goal

abbrev pub invariant-loop-finding : goal.invariant-loop-finding
invariant-loop-finding g l = map (tree_of g.D.Diagnostic.meaning g.S.SourceCode.source) l.reports.items
    ≡ map finding_tree (map coded_of l.yielded)
