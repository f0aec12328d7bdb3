use Rattle.std.proofs.Common.{rules, ap, sym, ◌∙◌, Some, option_map, map}
use Rattle.std.proofs.lemmas.Result.{IfOk-weaker}
use Rattle.miette_tree.specs.rules.Tree.{trees}
use Rattle.miette_tree.specs.views.Report.{tree_of}
use Rattle.miette_description.proofs.Shape.{given_some}
use Rattle.miette_description.proofs.report.report_with.Goals as goal

pub returns-in_err-parts-clause-description : goal.returns-in_err-parts-clause-description
returns-in_err-parts-clause-description g c e =
    let value = tree_of g.D.Diagnostic.meaning g.S.SourceCode.source in
    c.in_err-parts.ensures.description (search rules) (option_map (λ b. value b.value) c.args.one)
    (option_map (λ v. trees (map value v.items)) c.args.list)

pub returns-in_err-report-clause-description : goal.returns-in_err-report-clause-description
returns-in_err-report-clause-description g c e =
    let made = c.in_ok-parts.ensures in
    given_some _ _ made.said ∙ given_some _ _ made.source ∙ given_some _ _ made.several
    ∙ given_some _ _ made.contexts
    ∙ c.in_err-report.ensures.description (search rules)

pub returns-clause-ok : goal.returns-clause-ok
returns-clause-ok g c =
    let made = c.in_ok-parts.ensures in
    let chain = given_some _ _ made.said ∙ given_some _ _ made.source ∙ given_some _ _ made.several
    ∙ given_some _ _ made.contexts ∙ c.in_ok-report.ensures.ok in
    IfOk-weaker c.box_of.result _ _ (λ b p. chain ∙ ap (λ r. Some
    (tree_of g.D.Diagnostic.meaning g.S.SourceCode.source r)) (sym p)) c.box_of.ensures.ok

pub returns-clause-description : goal.returns-clause-description
returns-clause-description g c e = absurd (c.box_of.ensures.memory e)
