use Rattle.std.proofs.Common.{Some}
use Rattle.miette_draw.proofs.PictureSteps.{over-same}
use Rattle.miette_lint_program.proofs.lint_reports.render_picture.Goals as goal

pub returns-clause-text : goal.returns-clause-text
returns-clause-text c =
    over-same (Some c.args.check.now.width) c.draw_diagnostic.result c.args.check.now.name.now _ _ c.args.source.items
    c.in_ok-diagnostic.ensures c.draw_diagnostic.ensures.ok
