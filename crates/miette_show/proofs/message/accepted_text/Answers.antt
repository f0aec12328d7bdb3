use Rattle.miette_tree.specs.views.Report.{tree_of}
use Rattle.miette_show.proofs.TextSteps.{only_memory}
use Rattle.miette_show.proofs.message.accepted_text.Goals as goal

pub returns-clause-others : goal.returns-clause-others
returns-clause-others g c =
    only_memory c.args.handler.now (tree_of g.D.Diagnostic.meaning g.S.SourceCode.source c.args.report.now)
    c.render.result c.requires.accepted c.render.ensures.refused c.render.ensures.others
