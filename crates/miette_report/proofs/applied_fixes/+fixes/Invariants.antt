use Rattle.std.proofs.Common.{◌≡◌, ◌≤◌, ◌+◌, ◌*◌, ◌++◌, map}
use Rattle.miette_tree.specs.rules.Tree.{cause_of, trees}
use Rattle.miette_tree.specs.views.Report.{tree_of}
use Rattle.miette_tree.proofs.TreeSizes.{tree_size, trees_size}
use Rattle.miette_report.specs.rules.AppliedFixes.{fixes_of_causes}
use Rattle.miette_report.specs.steps.FixLists.{fixes_in}
use Rattle.miette_report.proofs.FixSteps.{ListedSoFar}
use Rattle.miette_report.proofs.applied_fixes.+fixes.Given as goal

abbrev pub decreases-with_all : goal.decreases-with_all
decreases-with_all g l = 3 * tree_size (tree_of g.D.Diagnostic.meaning g.S.SourceCode.source l.report.now) + 1

abbrev pub decreases-with_causes : goal.decreases-with_causes
decreases-with_causes g l = 3 * tree_size (tree_of g.D.Diagnostic.meaning g.S.SourceCode.source l.report.now)

abbrev pub decreases-with_cause : goal.decreases-with_cause
decreases-with_cause g l = 3 * tree_size (tree_of g.D.Diagnostic.meaning g.S.SourceCode.source l.report.now)

abbrev pub decreases-with_related : goal.decreases-with_related
decreases-with_related g l = 3 * trees_size (trees (map (tree_of g.D.Diagnostic.meaning g.S.SourceCode.source)
    l.reports.now))

abbrev pub decreases-with_inheriting : goal.decreases-with_inheriting
decreases-with_inheriting g l = 3 * tree_size (tree_of g.D.Diagnostic.meaning g.S.SourceCode.source l.report.now) + 2

-- what is listed, and the causes of the report that was reached, which is no deeper than the first
abbrev pub invariant-with_causes-loop-next : goal.invariant-with_causes-loop-next
invariant-with_causes-loop-next g l =
    let value = tree_of g.D.Diagnostic.meaning g.S.SourceCode.source in
    record {
      listed : fixes_in l.list.items ++ fixes_of_causes (cause_of (value l.at))
          ≡ fixes_in l.initial.list.items ++ fixes_of_causes (cause_of (value l.report));
      small : tree_size (value l.at) ≤ tree_size (value l.report);
    }

abbrev pub decreases-with_causes-loop-next : goal.decreases-with_causes-loop-next
decreases-with_causes-loop-next g l = tree_size (tree_of g.D.Diagnostic.meaning g.S.SourceCode.source l.at)

abbrev pub invariant-with_related-loop-report : goal.invariant-with_related-loop-report
invariant-with_related-loop-report g l =
    ListedSoFar (tree_of g.D.Diagnostic.meaning g.S.SourceCode.source) l.reports l.report-index
    (fixes_in l.initial.list.items) (fixes_in l.list.items)
