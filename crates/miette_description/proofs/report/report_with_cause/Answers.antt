use Rattle.std.proofs.Common.{map, string_bytes, ap, ◌∙◌}
use Rattle.miette_tree.specs.rules.Tree.{diagnostic, with_cause}
use Rattle.miette_tree.specs.views.Report.{tree_of}
use Rattle.miette_description.proofs.ReportParts.{no_cause, text_causes, report_cause}
use Rattle.miette_description.proofs.report.report_with_cause.Goals as goal

pub returns-in-None-clause-ok : goal.returns-in-None-clause-ok
returns-in-None-clause-ok g c =
    let value = tree_of g.D.Diagnostic.meaning g.S.SourceCode.source in
    text_causes c.args.causes.one c.args.causes.several c.in-Some-several.list (λ b. value b.value)
    (λ v. map string_bytes v.items) (value c.args.report) (value c.with_cause_texts.result)
    c.in-None.is c.in-Some-several.is c.with_cause_texts.ensures.tree

pub returns-in-None-several-clause-ok : goal.returns-in-None-several-clause-ok
returns-in-None-several-clause-ok g c =
    let value = tree_of g.D.Diagnostic.meaning g.S.SourceCode.source in
    no_cause c.args.causes.one c.args.causes.several (λ b. value b.value) (λ v. map string_bytes v.items)
    (value c.args.report) c.in-None.is c.in-None-several.is c.requires

pub returns-in-Ok-clause-ok : goal.returns-in-Ok-clause-ok
returns-in-Ok-clause-ok g c =
    let value = tree_of g.D.Diagnostic.meaning g.S.SourceCode.source in
    report_cause c.args.causes.one c.args.causes.several c.in-Some.cause (λ b. value b.value)
    (λ v. map string_bytes v.items) (value c.args.report) (value c.in-Ok.made)
    c.in-Some.is c.in-None-several-2.is (c.in-Ok.ensures.tree
    ∙ ap (λ r. with_cause (diagnostic (value r)) (value c.args.report)) c.into_inner.ensures)
