-- Steps of telling what is found.
use Rattle.std.proofs.Common.{◌≡◌, Bool, eqb, List, [], ◌∷◌, length, ap, ◌∙◌, arith}
use Rattle.std.proofs.lemmas.Bool.{ne_eqb}
use Rattle.miette_lines.specs.rules.Lists.{is_nil}
use Rattle.miette_protocol.specs.views.Meaning.{Label}

pub clean_is : (found slice : List Label) (r : Bool) → slice ≡ found → r ≡ eqb (length slice) 0 → r ≡ is_nil found
clean_is [] slice r same e = e ∙ ap (λ (k : List Label). eqb (length k) 0) same
clean_is (l ∷ ls) slice r same e =
    e ∙ ap (λ (k : List Label). eqb (length k) 0) same ∙ ne_eqb (length (l ∷ ls)) 0 (λ none. omega (arith, none))
