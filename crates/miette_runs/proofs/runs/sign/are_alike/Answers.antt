use Rattle.std.proofs.Common.{◌∙◌, ap, sym}
use Rattle.miette_style.specs.rules.Codes.{colour_start}
use Rattle.miette_runs.specs.views.Interleaving.{sign_text}
use Rattle.miette_runs.proofs.runs.sign.are_alike.Goals as goal

pub returns-in-Begin-Begin : goal.returns-in-Begin-Begin
returns-in-Begin-Begin c = λ e.
    let same = (c.comparison_laws.ensures.equal_styles c.in-Begin-Begin.one c.in-Begin-Begin.other).0
    (sym c.eq.ensures ∙ e) in
    ap sign_text c.in-Begin-Begin.is-0 ∙ ap colour_start same ∙ sym (ap sign_text c.in-Begin-Begin.is-1)
