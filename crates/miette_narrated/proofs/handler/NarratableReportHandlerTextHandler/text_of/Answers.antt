use Rattle.std.proofs.Common.{subst, string_bytes}
use Rattle.std.specs.Prelude.{IfOk}
use Rattle.miette_tree.specs.views.Report.{tree_of}
use Rattle.miette_narrated.specs.rules.Report.{NarrationSettings}
use Rattle.miette_narrated.specs.rules.PossibleAnswers.{IsNarrated}
use Rattle.miette_narrated.proofs.handler.NarratableReportHandlerTextHandler.text_of.Goals as goal

pub returns-clause-text : goal.returns-clause-text
returns-clause-text g c =
    let t = tree_of g.D.Diagnostic.meaning g.S.SourceCode.source c.args.report.now in
    subst (λ (s : NarrationSettings). IfOk c.narration_of.result (λ text. IsNarrated s t (string_bytes text)))
    c.settings.ensures c.narration_of.ensures.text
