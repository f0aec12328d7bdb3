-- What begins a style is a colour.
use Rattle.std.proofs.Common.{◌≡◌, ℕ, true, false, ◌==◌, List, [], ◌∷◌, ◌++◌, refl, arith}
use Rattle.std.proofs.lemmas.Bool.Decides.{nat_tests}
use Rattle.miette_style.proofs.StyleBytes.{parameters, separated_style}
use Rattle.miette_runs.specs.rules.Sequences.{is_parameter}
use Rattle.miette_runs.specs.rules.Colours.{is_colour, is_colour_end}
use Rattle.miette_style.specs.declared.style.Style.{Style}
use Rattle.miette_style.specs.rules.Codes.{colour_start, separated_codes, style_codes}

parameter_end : (c : ℕ) → is_parameter c ≡ true → (c == 109) ≡ false
parameter_end c h = grind (arith, nat_tests)

parameters_end : (x : List ℕ) → parameters x ≡ true → is_colour_end (x ++ 109 ∷ []) ≡ true
parameters_end [] h = refl
parameters_end (c ∷ x) h = grind (arith, nat_tests, parameter_end c, parameters_end x)

pub start_colour : (s : Style) → is_colour (colour_start s) ≡ true
start_colour s = parameters_end (separated_codes (style_codes s)) (separated_style s)
