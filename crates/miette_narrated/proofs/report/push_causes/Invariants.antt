use Rattle.std.proofs.Common.{◌≡◌, ◌++◌, string_bytes, map, drop}
use Rattle.miette_tree.specs.rules.Tree.{cause_of, causes_of}
use Rattle.miette_tree.specs.views.Report.{tree_of}
use Rattle.miette_narrated.specs.rules.Report.{cause_rows}
use Rattle.miette_tree.proofs.TreeSizes.{tree_size}
use Rattle.miette_narrated.proofs.report.push_causes.Given as goal

abbrev pub decreases-loop-next : goal.decreases-loop-next
decreases-loop-next g l = tree_size (tree_of g.D.Diagnostic.meaning g.S.SourceCode.source l.at)

abbrev pub invariant-loop-next : goal.invariant-loop-next
invariant-loop-next g l =
    let value = tree_of g.D.Diagnostic.meaning g.S.SourceCode.source in
    string_bytes l.out ++ cause_rows (causes_of (cause_of (value l.at))) ≡ string_bytes l.fn.out
    ++ cause_rows (causes_of (cause_of (value l.report)))

abbrev pub invariant-loop-text : goal.invariant-loop-text
invariant-loop-text g l =
    let value = tree_of g.D.Diagnostic.meaning g.S.SourceCode.source in
    string_bytes l.out ++ cause_rows (map string_bytes (drop l.text-index l.text-items)) ≡ string_bytes l.fn.out
    ++ cause_rows (causes_of (cause_of (value l.fn.report)))
