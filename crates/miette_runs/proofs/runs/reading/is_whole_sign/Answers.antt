use Rattle.std.proofs.Common.{◌∙◌, ap, sym, inl, inr}
use Rattle.miette_runs.specs.rules.Sequences.{is_whole}
use Rattle.miette_runs.specs.views.Interleaving.{sign_text}
use Rattle.miette_runs.proofs.SettledRuns.{start-whole}
use Rattle.miette_runs.proofs.runs.reading.is_whole_sign.Goals as goal

pub returns-in-Begin : goal.returns-in-Begin
returns-in-Begin c = elim c.in-Begin.is [
  | inl (style, is) ↦ sym (ap (λ s. is_whole (sign_text s)) is ∙ start-whole style)
  | inr is ↦ sym (ap (λ s. is_whole (sign_text s)) is)
]
