use Rattle.std.proofs.Common.{ap, ap₂, ◌∙◌}
use Rattle.miette_protocol.specs.rules.Reading.{Source}
use Rattle.miette_tree.specs.rules.Tree.{trees, with_fixes, with_related}
use Rattle.miette_tree.specs.views.Report.{tree_of}
use Rattle.miette_read.proofs.advice.add_suggestions.Goals as goal

pub returns : goal.returns
returns g c =
    let value = tree_of g.D.Diagnostic.meaning (λ (it : Source). it) in
    c.with_related.ensures.tree
    ∙ ap₂ (λ ts t. with_related (trees ts) t) c.in_ok-related.ensures
    (c.in_ok-report.ensures.tree ∙ ap (λ fs. with_fixes fs (value c.args.report)) c.in_ok-fixes.ensures)
