use Rattle.std.proofs.Common.{◌≡◌, ◌++◌, string_bytes, map}
use Rattle.miette_tree.specs.rules.Tree.{cause_of, causes_of}
use Rattle.miette_tree.specs.views.Report.{tree_of}
use Rattle.miette_tree.proofs.TreeSizes.{tree_size}
use Rattle.miette_brief.specs.rules.Commands.{message_rows_text}
use Rattle.miette_brief.proofs.Commanding.{cause}
use Rattle.miette_brief.proofs.github.push_causes.Given as goal

abbrev pub decreases-loop-next : goal.decreases-loop-next
decreases-loop-next g l = tree_size (tree_of g.D.Diagnostic.meaning g.S.SourceCode.source l.above)

abbrev pub invariant-loop-next : goal.invariant-loop-next
invariant-loop-next g l =
    let value = tree_of g.D.Diagnostic.meaning g.S.SourceCode.source in
    string_bytes l.out ++ message_rows_text (map cause (causes_of (cause_of (value l.above))))
    ≡ string_bytes l.fn.out ++ message_rows_text (map cause (causes_of (cause_of (value l.fn.report))))
