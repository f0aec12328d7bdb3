use Rattle.std.proofs.Common.{[], ◌∷◌}
use Rattle.miette_tree.specs.rules.Tree.{trees}
use Rattle.miette_tree.specs.views.Report.{tree_of}
use Rattle.miette_lsp.proofs.handler.LspReportHandlerTextHandler.text_of.Goals as goal

pub returns-clause-text : goal.returns-clause-text
returns-clause-text g c =
    c.in_ok-text.ensures (trees (tree_of g.D.Diagnostic.meaning g.S.SourceCode.source c.args.report.now ∷ []))
    c.in_ok-findings.ensures
