use Rattle.std.proofs.Common.{[], ◌∷◌, string_bytes, subst}
use Rattle.miette_tree.specs.rules.Tree.{trees}
use Rattle.miette_tree.specs.views.Report.{tree_of}
use Rattle.miette_sarif.specs.rules.LogText.{IsLogOf}
use Rattle.miette_sarif.proofs.handler.SarifReportHandlerTextHandler.text_of.Goals as goal

pub returns-clause-text : goal.returns-clause-text
returns-clause-text g c =
    let ts = trees (tree_of g.D.Diagnostic.meaning g.S.SourceCode.source c.args.report.now ∷ []) in
    subst (λ tool. IsLogOf tool ts (string_bytes c.in_ok-text.text)) c.told.ensures
    (c.in_ok-text.ensures ts c.in_ok-findings.ensures)
