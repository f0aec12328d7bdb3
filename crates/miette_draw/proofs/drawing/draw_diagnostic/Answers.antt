use Rattle.miette_draw.proofs.PictureSteps.{IfOk-same, reads-over}
use Rattle.miette_draw.proofs.drawing.draw_diagnostic.Goals as goal

pub draw-requires : goal.draw-requires
draw-requires c = record { reads = reads-over c.args.limit _ _ _ _ c.in-Ok.ensures }

pub returns-clause-ok : goal.returns-clause-ok
returns-clause-ok c = IfOk-same c.args.limit c.draw.result _ _ c.in-Ok.ensures c.draw.ensures.ok
