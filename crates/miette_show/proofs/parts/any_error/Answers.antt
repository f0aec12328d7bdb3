use Rattle.std.proofs.Common.{◌∙◌, rules, tests}
use Rattle.std.proofs.lemmas.Iterator.{YieldsList-from_slice}
use Rattle.std.proofs.lemmas.Iterator.Search.{any_from_yields_List}
use Rattle.miette_read.proofs.Steps.{any_of}
use Rattle.miette_tree.specs.views.Report.{tree_of}
use Rattle.miette_show.specs.rules.ShownRow.{is_error_tree}
use Rattle.miette_show.proofs.parts.any_error.Goals as goal

pub returns : goal.returns
returns g c =
    let tree = tree_of g.D.Diagnostic.meaning g.S.SourceCode.source in
    let reports = c.args.reports.now in
    any_from_yields_List (λ r. is_error_tree (tree r)) _ _ _ c.any.ensures.ran (YieldsList-from_slice reports cc)
    (λ x b q k. search (rules, tests))
    ∙ any_of tree is_error_tree reports
