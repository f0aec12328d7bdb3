-- Where `/../` stands in a name.
use Rattle.std.proofs.Common.{◌≡◌, ℕ, List, ◌∷◌, true, false, sym, ap, ◌∙◌}
use Rattle.std.specs.Prelude.{◌||◌}
use Rattle.miette_show_rows.specs.rules.Looking.{begins_up, goes_up}

module _ (rest more : List ℕ) (b : ℕ) (is : rest ≡ b ∷ more) where
  pub up_here : begins_up rest ≡ true → true ≡ goes_up rest
  up_here e = sym (ap goes_up is ∙ ap (λ t. t || goes_up more) (ap begins_up (sym is) ∙ e))

  pub up_later : begins_up rest ≡ false → goes_up more ≡ goes_up rest
  up_later e = sym (ap goes_up is ∙ ap (λ t. t || goes_up more) (ap begins_up (sym is) ∙ e))
