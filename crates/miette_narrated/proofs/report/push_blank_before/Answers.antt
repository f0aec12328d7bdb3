use Rattle.std.proofs.Common.{ap, sym, ◌∙◌, ◌++◌, length, string_bytes}
use Rattle.std.proofs.lemmas.Bool.{eqb-false}
use Rattle.std.proofs.lemmas.Result.{on_ok_weaker}
use Rattle.miette_tree.specs.views.Report.{tree_of}
use Rattle.miette_narrated.proofs.Telling.{blank_some}
use Rattle.miette_narrated.proofs.report.push_blank_before.Goals as goal

pub returns : goal.returns
returns g c =
    let reports = c.args.reports.now in
    on_ok_weaker c.push_row.result (λ h. h ∙ ap (λ r. string_bytes c.args.out.now ++ r)
    (sym (blank_some (tree_of g.D.Diagnostic.meaning g.S.SourceCode.source) reports
    (eqb-false (length reports) 0 (sym c.is_empty.ensures ∙ c.if-is_empty.false))))) c.push_row.ensures
