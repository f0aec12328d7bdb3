use Rattle.std.proofs.Common.{◌∙◌, ap, map, rules}
use Rattle.std.proofs.lemmas.Fn.{filter_same}
use Rattle.miette_tree.specs.views.Report.{tree_of}
use Rattle.miette_show.specs.rules.Logging.{is_logged}
use Rattle.miette_show.proofs.Logging.{filter_seen}
use Rattle.miette_show.proofs.unplaced_reports.kept.Goals as goal

pub returns : goal.returns
returns g c =
    let tree = tree_of g.D.Diagnostic.meaning g.S.SourceCode.source in
    ap (map tree) (filter_same _ (λ r. is_logged c.args.placed (tree r)) _ (λ x b f' k. search rules) _ _
    c.retain.ensures.filtered)
    ∙ filter_seen tree (is_logged c.args.placed) c.args.reports.items
