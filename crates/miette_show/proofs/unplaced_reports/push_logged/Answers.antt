use Rattle.std.proofs.Common.{◌++◌, ◌∙◌, ap, map}
use Rattle.std.proofs.lemmas.List.{map-append}
use Rattle.std.proofs.lemmas.Result.{on_ok_weaker}
use Rattle.miette_tree.specs.views.Report.{tree_of}
use Rattle.miette_show.proofs.unplaced_reports.push_logged.Goals as goal

pub returns : goal.returns
returns g c =
    let tree = tree_of g.D.Diagnostic.meaning g.S.SourceCode.source in
    let old = c.args.list.now.items in
    on_ok_weaker c.push_all.result
    (λ h. ap (map tree) h ∙ map-append tree old c.kept.result.items ∙ ap (λ l. map tree old ++ l) c.kept.ensures)
    c.push_all.ensures
