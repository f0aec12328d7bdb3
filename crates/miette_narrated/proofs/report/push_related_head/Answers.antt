use Rattle.std.proofs.Common.{ap, ap₂, ◌∙◌, ◌++◌, string_bytes, []}
use Rattle.std.proofs.lemmas.Result.{on_ok_weaker}
use Rattle.miette_tree.specs.rules.Tree.{head}
use Rattle.miette_tree.specs.views.Report.{tree_of}
use Rattle.miette_tree.specs.rules.DiagnosticParts.{severity_title}
use Rattle.miette_narrated.specs.rules.Labels.{row}
use Rattle.miette_narrated.specs.rules.Report.{severity_row}
use Rattle.miette_narrated.proofs.Putting.{three}
use Rattle.miette_narrated.proofs.report.push_related_head.Goals as goal

pub returns : goal.returns
returns g c =
    let m = head (tree_of g.D.Diagnostic.meaning g.S.SourceCode.source c.args.report.now) in
    on_ok_weaker c.push_row-2.result (λ h. three (string_bytes c.args.out.now) (string_bytes c.push_row.new.out)
    (string_bytes c.push_severity.new.out) (string_bytes c.push_row-2.new.out)
    (row (severity_title m.severity ++ m.message)) (severity_row m.severity) (row [])
    (c.in_ok-push_row.ensures ∙ ap₂ (λ t x. string_bytes c.args.out.now ++ row (t ++ x))
    (c.severity_title.ensures ∙ ap severity_title c.severity.ensures) c.message.ensures)
    (c.in_ok-push_severity.ensures ∙ ap (λ s. string_bytes c.push_row.new.out ++ severity_row s) c.severity-2.ensures)
    h) c.push_row-2.ensures
