use Rattle.std.proofs.Common.{◌++◌, map, string_bytes}
use Rattle.miette_tree.specs.rules.Tree.{trees}
use Rattle.miette_tree.specs.views.Report.{tree_of}
use Rattle.miette_lint_program.specs.views.LintReports.{commands_of}
use Rattle.miette_lint_program.proofs.CommandSteps.{AreLeft}
use Rattle.miette_lint_program.proofs.lint_reports.push_commands.Given as goal

abbrev pub invariant-loop-report : goal.invariant-loop-report
invariant-loop-report g l =
    AreLeft (tree_of g.D.Diagnostic.meaning g.S.SourceCode.source) l.reports l.report-index (string_bytes l.text)
    (string_bytes l.fn.text
    ++ commands_of (trees (map (tree_of g.D.Diagnostic.meaning g.S.SourceCode.source) l.reports)))
