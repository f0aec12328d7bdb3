use Rattle.std.proofs.Common.{map}
use Rattle.std.proofs.lemmas.Result.{IfOk-weaker}
use Rattle.miette_tree.specs.rules.Tree.{trees}
use Rattle.miette_tree.specs.views.Report.{tree_of}
use Rattle.miette_lsp.proofs.handler.LspReportHandler.text_for.Goals as goal

pub returns : goal.returns
returns g c =
    let ts = trees (map (tree_of g.D.Diagnostic.meaning g.S.SourceCode.source) c.args.reports.now) in
    IfOk-weaker c.spelled.result _ _ (λ text told. told ts c.in_ok-findings.ensures) c.spelled.ensures
