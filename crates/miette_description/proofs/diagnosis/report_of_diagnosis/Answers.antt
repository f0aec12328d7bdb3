use Rattle.std.proofs.Common.{map, option_map, ap, ◌∙◌}
use Rattle.std.proofs.lemmas.Result.{IfOk-weaker}
use Rattle.miette_protocol.specs.views.Diagnostic.{meaning_of}
use Rattle.miette_tree.specs.views.Attachments.{section_of}
use Rattle.miette_description.specs.steps.OptionalParts.{maybe_snippets, maybe_fixes}
use Rattle.miette_description.proofs.ReportParts.{said_alone}
use Rattle.miette_description.proofs.diagnosis.report_of_diagnosis.Goals as goal

pub returns-clause-ok : goal.returns-clause-ok
returns-clause-ok g c =
    let sections = option_map (λ v. map (section_of g.S.SourceCode.source) v.items) c.args.said.snippets in
    let fixes = option_map (λ v. v.items) c.args.said.fixes in
    IfOk-weaker c.report_with_fixes.result _ _
    (λ r p. p ∙ ap (maybe_fixes fixes) (c.in_ok-report.ensures.ok ∙ ap (maybe_snippets sections) c.built.ensures.tree)
    ∙ said_alone (meaning_of c.args.said.diagnostic) sections fixes)
    c.report_with_fixes.ensures.ok
