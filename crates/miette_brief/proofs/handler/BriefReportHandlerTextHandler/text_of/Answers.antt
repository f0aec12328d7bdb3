use Rattle.std.proofs.Common.{subst, string_bytes, None, List, ℕ}
use Rattle.miette_tree.specs.views.Report.{tree_of}
use Rattle.miette_brief.specs.steps.AppendedParts.{AppendsBriefReport}
use Rattle.miette_brief.proofs.Telling.{is_brief}
use Rattle.miette_brief.proofs.WholeSources.{nowhere_in}
use Rattle.miette_brief.proofs.handler.BriefReportHandlerTextHandler.text_of.Goals as goal

pub push_report-requires : goal.push_report-requires
push_report-requires g c = nowhere_in c.args.self.now.form

pub returns-clause-text : goal.returns-clause-text
returns-clause-text g c =
    let value = tree_of g.D.Diagnostic.meaning g.S.SourceCode.source c.args.report.now in
    let settings = c.args.self.now in
    is_brief settings value (string_bytes c.push_report.new.out)
    (subst (λ (old : List ℕ). AppendsBriefReport settings None value old (string_bytes c.push_report.new.out))
    c.new-text.ensures.bytes c.in_ok-push_report.ensures.text)
