use Rattle.std.proofs.Common.{◌+◌, ◌*◌, map}
use Rattle.serde_json.specs.Data.{depth, items_depth}
use Rattle.miette_description.specs.steps.ParsedValues.{value_data, list_data}
use Rattle.miette_tree.specs.views.Report.{tree_of}
use Rattle.miette_description.specs.rules.Description.{report_in}
use Rattle.miette_description.proofs.Lists.{ReadSoFar}
use Rattle.miette_description.proofs.report.+description.Given as goal

abbrev pub decreases-report_from : goal.decreases-report_from
decreases-report_from g l = 4 * depth (value_data l.value.now) + 2

abbrev pub decreases-reports_from : goal.decreases-reports_from
decreases-reports_from g l = 4 * items_depth (list_data l.list.now) + 3

abbrev pub invariant-reports_from-loop-value : goal.invariant-reports_from-loop-value
invariant-reports_from-loop-value g l =
    ReadSoFar report_in l.list (map (tree_of g.D.Diagnostic.meaning g.S.SourceCode.source) l.reports.items)
    l.value-index

abbrev pub decreases-cause_in : goal.decreases-cause_in
decreases-cause_in g l = 4 * depth (value_data l.value.now) + 1

abbrev pub decreases-related_in : goal.decreases-related_in
decreases-related_in g l = 4 * depth (value_data l.value.now) + 1
