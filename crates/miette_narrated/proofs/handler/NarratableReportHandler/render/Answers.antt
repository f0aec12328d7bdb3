use Rattle.std.proofs.lemmas.Result.{on_ok_weaker}
use Rattle.miette_tree.specs.views.Report.{tree_of}
use Rattle.miette_narrated.proofs.Telling.{appended_only}
use Rattle.miette_narrated.proofs.handler.NarratableReportHandler.render.Goals as goal

pub returns-clause-only : goal.returns-clause-only
returns-clause-only g c =
    let t = tree_of g.D.Diagnostic.meaning g.S.SourceCode.source c.args.report.now in
    on_ok_weaker c.append_report_text.result (λ put. appended_only c.args.self.now t put.text _ _ put.is_given
    put.appended)
    c.append_report_text.ensures.text
