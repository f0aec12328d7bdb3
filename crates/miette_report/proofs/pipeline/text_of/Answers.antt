use Rattle.miette_report.proofs.JobSteps.{render-writes, render-refuses}
use Rattle.miette_report.proofs.pipeline.text_of.Goals as goal

pub returns-clause-ok : goal.returns-clause-ok
returns-clause-ok c = render-writes _ _ _ _ _ _ _ _ c.in_ok-report.ensures.asked c.in_ok-report.ensures.ok
    c.render.ensures.ok

pub returns-clause-refused : goal.returns-clause-refused
returns-clause-refused c = λ refused. render-refuses c.args.settings.choice c.args.settings.options
    c.args.settings.terminal _ _ _ c.in_ok-report.ensures.asked c.in_ok-report.ensures.ok
    (c.render.ensures.refused refused)
