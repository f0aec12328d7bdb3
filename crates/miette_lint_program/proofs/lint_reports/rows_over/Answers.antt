use Rattle.std.proofs.Common.{rules}
use Rattle.miette_lint_program.proofs.RowSteps.{listed, never_refused}
use Rattle.miette_lint_program.proofs.lint_reports.rows_over.Goals as goal

pub returns-clause-ok : goal.returns-clause-ok
returns-clause-ok c = listed _ _ _ _ _ _ _ c.in-Ok.ensures c.new.ensures c.new-text.ensures.bytes
    c.in_ok-render_report.ensures.only

pub returns-in_err-render_report-clause-accepted : goal.returns-in_err-render_report-clause-accepted
returns-in_err-render_report-clause-accepted c = λ accepted refused.
    never_refused _ _ _ _ c.in-Ok.ensures (c.in_err-render_report.ensures.refused (search rules)) accepted
