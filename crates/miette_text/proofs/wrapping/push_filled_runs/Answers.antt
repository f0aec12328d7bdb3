use Rattle.std.proofs.Common.{◌∙◌, ◌++◌, ap}
use Rattle.std.proofs.lemmas.Result.{on_ok_weaker}
use Rattle.miette_runs.specs.rules.Sequences.{spell}
use Rattle.miette_text.specs.rules.Wrapping.{filled_text}
use Rattle.miette_text.specs.views.Plans.{runs_plan}
use Rattle.miette_text.proofs.wrapping.push_filled_runs.Goals as goal

pub returns : goal.returns
returns g c =
    let o = g.S.Canvas.written c.args.out.now in
    on_ok_weaker c.push_filled_under.result (λ h. h
    ∙ ap (λ ts. o ++ spell (filled_text (runs_plan c.args.plan) ts)) c.parts-parts.ensures) c.push_filled_under.ensures
