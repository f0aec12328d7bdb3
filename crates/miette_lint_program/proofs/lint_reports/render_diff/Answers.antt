use Rattle.std.proofs.Common.{Some}
use Rattle.miette_lint_program.proofs.DiffSteps.{diff_drawn, diff_reads}
use Rattle.miette_lint_program.proofs.lint_reports.render_diff.Goals as goal

pub draw-requires : goal.draw-requires
draw-requires c = record { reads = diff_reads (Some c.args.check.now.width) _ _ _ _ _ c.in_ok-report.ensures }

pub returns-clause-text : goal.returns-clause-text
returns-clause-text c = diff_drawn c.draw.result c.args.check.now.width _ _ c.in_ok-report.ensures c.draw.ensures.ok
