use Rattle.std.proofs.Common.{◌∙◌, sym, ap}
use Rattle.miette_line_breaks.specs.views.Places.{after_code, found_before}
use Rattle.miette_line_breaks.proofs.States.{break-is, state-step}
use Rattle.miette_line_breaks.proofs.state.BreakState.step.Goals as goal

pub returns-clause-rules : goal.returns-clause-rules
returns-clause-rules c = λ before h. (
  c.stepped-found.ensures.found ∙ ap (λ s. found_before s c.args.c) h ∙ sym (break-is before c.args.c),
  c.stepped-found.ensures.behind ∙ ap (λ s. after_code s c.args.c) h ∙ sym (state-step c.args.c before),
)
