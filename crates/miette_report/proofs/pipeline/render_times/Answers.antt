use Rattle.std.proofs.Common.{rules}
use Rattle.miette_program.proofs.HighlighterSteps.{led-nowhere, led-on}
use Rattle.miette_program.proofs.JobHandlerSteps.{given-still, refused-before, stays-itself, stays-on}
use Rattle.miette_report.proofs.pipeline.render_times.Goals as goal

pub loop-init : goal.loop-init
loop-init g c = (stays-itself g.H.Highlighter.is_blank _, led-nowhere g.H.Highlighter.may_follow _)

pub loop-preserved : goal.loop-preserved
loop-preserved g c = (
  stays-on g.H.Highlighter.is_blank _ _ _ c.loop.invariant.0 c.render.ensures.stays,
  led-on g.H.Highlighter.may_follow _ _ _ c.loop.invariant.1 c.in_ok-render.ensures.led,
)

pub returns-in_err-render-clause-refused : goal.returns-in_err-render-clause-refused
returns-in_err-render-clause-refused g c = λ refused. refused-before g.H.Highlighter.is_blank _ _ _ c.loop.invariant.0
    (c.in_err-render.ensures.refused (search rules))

pub returns-clause-refused : goal.returns-clause-refused
returns-clause-refused g c = λ refused. refused-before g.H.Highlighter.is_blank _ _ _ c.loop.invariant.0
    (c.render-2.ensures.refused refused)

pub returns-clause-ok : goal.returns-clause-ok
returns-clause-ok g c =
    given-still g.H.Highlighter.is_blank g.H.Highlighter.may_follow _ _ _ c.render-2.result c.loop.invariant.0
    c.loop.invariant.1 c.render-2.ensures.ok
