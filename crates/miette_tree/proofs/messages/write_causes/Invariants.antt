-- the causes of the report that was reached are what is left to write
use Rattle.miette_tree.specs.rules.Display.{after_colons}
use Rattle.miette_tree.specs.rules.Tree.{cause_of, causes_of}
use Rattle.miette_tree.specs.views.Report.{tree_of}
use Rattle.miette_tree.proofs.Leading.{LeadsOn}
use Rattle.miette_tree.proofs.TreeSizes.{tree_size}
use Rattle.miette_tree.proofs.messages.write_causes.Given as goal

abbrev pub decreases-loop-next : goal.decreases-loop-next
decreases-loop-next g l = tree_size (tree_of g.D.Diagnostic.meaning g.S.SourceCode.source l.at)

abbrev pub invariant-loop-next : goal.invariant-loop-next
invariant-loop-next g l =
    let value = tree_of g.D.Diagnostic.meaning g.S.SourceCode.source in
    LeadsOn g.W.Write.write_str_gives l.fn.f l.f (after_colons (causes_of (cause_of (value l.report))))
    (after_colons (causes_of (cause_of (value l.at))))
