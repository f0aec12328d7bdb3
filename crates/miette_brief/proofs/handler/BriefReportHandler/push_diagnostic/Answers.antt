use Rattle.std.proofs.Common.{sym, ◌∙◌, subst, string_bytes}
use Rattle.std.specs.Option.{option_map}
use Rattle.std.proofs.lemmas.Result.{on_ok_weaker}
use Rattle.miette_tree.specs.rules.Tree.{cause_of, head}
use Rattle.miette_tree.specs.views.Owned.{ref_source}
use Rattle.miette_tree.specs.views.Report.{tree_of}
use Rattle.miette_brief.specs.declared.form.BriefForm.{BriefForm}
use Rattle.miette_brief.specs.declared.form.BriefForm.TheVariants.{Gcc, Github}
use Rattle.miette_brief.specs.rules.Report.{BriefSettings}
use Rattle.miette_brief.specs.steps.AppendedParts.{AppendsBriefDiagnostic}
use Rattle.miette_brief.specs.steps.WholeSources.{IsWholeIn}
use Rattle.miette_brief.proofs.Commanding.{same_settings}
use Rattle.miette_brief.proofs.handler.BriefReportHandler.push_diagnostic.Goals as goal

pub push_command-requires : goal.push_command-requires
push_command-requires g c =
    let source = option_map (ref_source g.S.SourceCode.source) c.args.source in
    subst (λ (f : BriefForm). IsWholeIn f source c.args.whole.now) (sym c.form.ensures ∙ c.in-Github.is) c.requires

pub returns-in-Gcc-clause-text : goal.returns-in-Gcc-clause-text
returns-in-Gcc-clause-text g c =
    let value = tree_of g.D.Diagnostic.meaning g.S.SourceCode.source c.args.report.now in
    let source = option_map (ref_source g.S.SourceCode.source) c.args.source in
    let same = same_settings c.args.self.now c.shows_causes-chain.result Gcc c.shows_causes-chain.ensures
    (sym c.in-Gcc.is ∙ c.form.ensures) in
    on_ok_weaker c.push_diagnostic.result (λ h. subst (λ (b : BriefSettings). AppendsBriefDiagnostic b source
    (head value) (cause_of value)
    (string_bytes c.args.out.now) (string_bytes c.push_diagnostic.new.out)) same h) c.push_diagnostic.ensures.text

pub returns-in-Github-clause-text : goal.returns-in-Github-clause-text
returns-in-Github-clause-text g c =
    let value = tree_of g.D.Diagnostic.meaning g.S.SourceCode.source c.args.report.now in
    let source = option_map (ref_source g.S.SourceCode.source) c.args.source in
    let same = same_settings c.args.self.now c.shows_causes-chain.result Github c.shows_causes-chain.ensures
    (sym c.in-Github.is ∙ c.form.ensures) in
    on_ok_weaker c.push_command.result (λ h. subst (λ (b : BriefSettings). AppendsBriefDiagnostic b source (head value)
    (cause_of value) (string_bytes c.args.out.now) (string_bytes c.push_command.new.out)) same h)
    c.push_command.ensures.text
