use Rattle.std.proofs.Common.{◌∙◌, ap, sym, inl, inr}
use Rattle.miette_runs.specs.rules.Colours.{is_colour}
use Rattle.miette_runs.specs.views.Interleaving.{sign_text}
use Rattle.miette_runs.proofs.Parameters.{start_colour}
use Rattle.miette_runs.proofs.runs.tags.is_colour_sign.Goals as goal

pub returns-in-Begin : goal.returns-in-Begin
returns-in-Begin c = elim c.in-Begin.is [
  | inl (style, is) ↦ sym (ap (λ s. is_colour (sign_text s)) is ∙ start_colour style)
  | inr is ↦ sym (ap (λ s. is_colour (sign_text s)) is)
]
