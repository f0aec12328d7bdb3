use Rattle.std.proofs.Common.{rules}
use Rattle.miette_tree.specs.views.Report.{tree_of}
use Rattle.miette_draw.proofs.PictureSteps.{pictured, plain-settings, unrefused}
use Rattle.miette_draw.proofs.drawing.draw.Goals as goal

pub returns-clause-ok : goal.returns-clause-ok
returns-clause-ok g c =
    pictured c.args.limit _ c.in-Ok.theme _ _ _ _ c.in-Ok.ensures
    (plain-settings c.args.limit c.in-Ok.theme _ c.in-Ok.ensures c.drawing-handler.ensures)
    c.new-text.ensures.bytes c.in_ok-render_report.ensures.only c.requires.reads

pub returns-in_err-render_report-clause-accepted : goal.returns-in_err-render_report-clause-accepted
returns-in_err-render_report-clause-accepted g c = λ refused.
    unrefused c.args.limit c.in-Ok.theme _
    (tree_of _ _ c.args.report.now) (plain-settings c.args.limit c.in-Ok.theme _ c.in-Ok.ensures
    c.drawing-handler.ensures)
    (c.in_err-render_report.ensures.refused (search rules)) c.requires.reads
