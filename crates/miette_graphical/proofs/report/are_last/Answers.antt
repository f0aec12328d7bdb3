use Rattle.miette_tree.specs.views.Report.{tree_of}
use Rattle.miette_graphical.proofs.Steps.{not_last}
use Rattle.miette_graphical.proofs.report.are_last.Goals as goal

pub returns-in-len1-up : goal.returns-in-len1-up
returns-in-len1-up g c = not_last (tree_of g.D.Diagnostic.meaning g.S.SourceCode.source) c.args.reports.now
    c.in-len1-up.len_at_least
