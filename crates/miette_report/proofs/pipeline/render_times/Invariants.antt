use Rattle.miette_program.specs.rules.JobText.{IsLed, JobHandlerStays}
use Rattle.miette_report.proofs.pipeline.render_times.Given as goal

-- the handler stays, but for a state of its highlighter, to which calls led
abbrev pub invariant-loop : goal.invariant-loop
invariant-loop g l = JobHandlerStays g.H.Highlighter.is_blank l.fn.handler l.handler
    × IsLed g.H.Highlighter.may_follow l.fn.handler l.handler
