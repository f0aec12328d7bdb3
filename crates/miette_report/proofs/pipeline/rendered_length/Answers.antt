use Rattle.std.proofs.Common.{rules}
use Rattle.miette_report.proofs.JobSteps.{length-written, render-refuses}
use Rattle.miette_report.proofs.pipeline.rendered_length.Goals as goal

pub returns-in_err-last-clause-refused : goal.returns-in_err-last-clause-refused
returns-in_err-last-clause-refused c = λ refused.
    render-refuses c.args.settings.choice c.args.settings.options c.args.settings.terminal _ _ _
    c.in_ok-report.ensures.asked c.in_ok-report.ensures.ok (c.in_err-last.ensures.refused (search rules))

pub returns-clause-ok : goal.returns-clause-ok
returns-clause-ok c = λ times.
    length-written _ _ _ _ _ _ _ _ _ c.in_ok-report.ensures.asked c.in_ok-report.ensures.ok c.in_ok-last.ensures.ok
    (search rules)

pub returns-clause-none : goal.returns-clause-none
returns-clause-none c = λ zero. absurd (c.if-times-eq0.false zero)
