use Rattle.std.proofs.Common.{rules, map, option_map, string_bytes}
use Rattle.std.proofs.lemmas.Result.{IfOk-weaker}
use Rattle.miette_tree.specs.rules.Tree.{trees}
use Rattle.miette_tree.specs.views.Owned.{owned_source}
use Rattle.miette_tree.specs.views.Report.{tree_of}
use Rattle.miette_description.specs.steps.OptionalParts.{diagnosis_of_parts}
use Rattle.miette_description.proofs.ReportParts.{parts_made, no_parts}
use Rattle.miette_description.proofs.report.report_of_parts.Goals as goal

pub returns-in_err-report-clause-description : goal.returns-in_err-report-clause-description
returns-in_err-report-clause-description g c e =
    let value = tree_of g.D.Diagnostic.meaning g.S.SourceCode.source in
    no_parts (diagnosis_of_parts g.S.SourceCode.source c.args.parts.said) (option_map owned_source c.args.parts.source)
    (option_map (λ b. value b.value) c.args.one)
    (option_map (λ v. map string_bytes v.items) c.args.parts.several)
    (option_map (λ v. trees (map value v.items)) c.args.list)
    (option_map (λ v. map string_bytes v.items) c.args.parts.contexts)
    (c.in_err-report.ensures.description (search rules))

pub returns-clause-ok : goal.returns-clause-ok
returns-clause-ok g c =
    let value = tree_of g.D.Diagnostic.meaning g.S.SourceCode.source in
    IfOk-weaker c.report_under.result _ _
    (λ r p. parts_made (diagnosis_of_parts g.S.SourceCode.source c.args.parts.said)
    (option_map owned_source c.args.parts.source)
    (option_map (λ b. value b.value) c.args.one)
    (option_map (λ v. map string_bytes v.items) c.args.parts.several)
    (option_map (λ v. trees (map value v.items)) c.args.list)
    (option_map (λ v. map string_bytes v.items) c.args.parts.contexts) (value c.in_ok-made.made)
    (value c.report_with_source-report.result) (value c.in_ok-report.report)
    (value c.report_with_related.result) (value r) c.in_ok-made.ensures.ok c.report_with_source-report.ensures
    c.in_ok-report.ensures.ok c.report_with_related.ensures p)
    c.report_under.ensures.ok

pub returns-clause-description : goal.returns-clause-description
returns-clause-description g c e = absurd (c.report_under.ensures.memory e)

pub returns-in_err-made-clause-description : goal.returns-in_err-made-clause-description
returns-in_err-made-clause-description g c e = absurd (c.in_err-made.ensures.memory (search rules))
