use Rattle.std.proofs.Common.{◌∙◌, IfOk, None, sym, subst}
use Rattle.miette_tree.specs.rules.Tree.{source_of}
use Rattle.miette_tree.specs.views.Report.{tree_of}
use Rattle.miette_brief.specs.declared.form.BriefForm.{BriefForm}
use Rattle.miette_brief.specs.steps.WholeSources.{IsOwnIn}
use Rattle.miette_brief.proofs.handler.BriefReportHandler.read_own_source.Goals as goal

pub returns-in-Gcc : goal.returns-in-Gcc
returns-in-Gcc g c =
    let own = source_of (tree_of g.D.Diagnostic.meaning g.S.SourceCode.source c.args.report.now) in
    subst (λ (f : BriefForm). IsOwnIn f own None) (sym c.in-Gcc.is ∙ c.form.ensures) tt

pub returns-in-Github : goal.returns-in-Github
returns-in-Github g c =
    let own = source_of (tree_of g.D.Diagnostic.meaning g.S.SourceCode.source c.args.report.now) in
    subst (λ (f : BriefForm). IfOk c.read_own_source.result (λ it. IsOwnIn f own it)) (sym c.in-Github.is ∙ c.form.ensures)
    c.read_own_source.ensures
