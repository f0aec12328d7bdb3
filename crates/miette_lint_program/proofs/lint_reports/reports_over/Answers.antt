use Rattle.std.proofs.Common.{map, rules}
use Rattle.miette_lint.specs.views.Found.{coded_of}
use Rattle.miette_tree.specs.views.Report.{tree_of}
use Rattle.miette_lint_program.proofs.LogSteps.{all_over, none_over, none_there, some_there}
use Rattle.miette_lint_program.proofs.lint_reports.reports_over.Goals as goal

pub returns-then-is_empty : goal.returns-then-is_empty
returns-then-is_empty g c =
    none_over (tree_of g.D.Diagnostic.meaning g.S.SourceCode.source) c.args.name.now c.args.input.items
    (map coded_of c.args.found.items) c.in_ok-reports.reports.items c.in_ok-reports.ensures
    (none_there _ _ _ c.as_slice.ensures.value c.is_empty.ensures c.if-is_empty.true)

pub returns : goal.returns
returns g c =
    all_over (tree_of g.D.Diagnostic.meaning g.S.SourceCode.source) c.args.name.now c.args.input.items
    (map coded_of c.args.found.items) c.in_ok-reports.reports.items _ _ c.remove-first.result c.with_related.result
    c.with_owned_source.result _ c.in_ok-reports.ensures
    (some_there _ _ _ c.as_slice.ensures.value c.is_empty.ensures c.if-is_empty.false) c.remove-first.ensures.value
    c.remove-first.ensures.items c.in_ok-source.ensures c.with_related.ensures.tree c.with_owned_source.ensures.tree
    (search rules)
