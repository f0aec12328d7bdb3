use Rattle.std.proofs.Common.{◌≡◌}
use Rattle.miette_tree.specs.rules.Tree.{cause_of, causes_of}
use Rattle.miette_tree.specs.views.Report.{tree_of}
use Rattle.miette_json.specs.rules.JsonReport.{strings}
use Rattle.miette_json.specs.rules.Writing.{opened, with_items}
use Rattle.miette_tree.proofs.TreeSizes.{tree_size}
use Rattle.miette_json.proofs.report.push_causes.Given as goal

abbrev pub decreases-loop-next : goal.decreases-loop-next
decreases-loop-next g l = tree_size (tree_of g.D.Diagnostic.meaning g.S.SourceCode.source l.at)

abbrev pub invariant-loop-next : goal.invariant-loop-next
invariant-loop-next g l =
    let value = tree_of g.D.Diagnostic.meaning g.S.SourceCode.source in
    with_items (strings (causes_of (cause_of (value l.at)))) l.json
    ≡ with_items (strings (causes_of (cause_of (value l.report)))) (opened 91 l.fn.json)
