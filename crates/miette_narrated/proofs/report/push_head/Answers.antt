use Rattle.std.proofs.Common.{ap, ◌∙◌, ◌++◌, string_bytes}
use Rattle.std.proofs.lemmas.Result.{on_ok_weaker}
use Rattle.miette_tree.specs.rules.Tree.{head}
use Rattle.miette_tree.specs.views.Report.{tree_of}
use Rattle.miette_narrated.specs.rules.Labels.{row}
use Rattle.miette_narrated.specs.rules.Report.{severity_row}
use Rattle.miette_narrated.proofs.Putting.{then}
use Rattle.miette_narrated.proofs.report.push_head.Goals as goal

pub returns : goal.returns
returns g c =
    let m = head (tree_of g.D.Diagnostic.meaning g.S.SourceCode.source c.args.report.now) in
    on_ok_weaker c.push_severity.result (λ h. then (string_bytes c.args.out.now) (string_bytes c.push_row.new.out)
    (string_bytes c.push_severity.new.out) (row m.message) (severity_row m.severity)
    (c.in_ok-push_row.ensures ∙ ap (λ t. string_bytes c.args.out.now ++ row t) c.message.ensures)
    (h ∙ ap (λ s. string_bytes c.push_row.new.out ++ severity_row s) c.severity.ensures)) c.push_severity.ensures
