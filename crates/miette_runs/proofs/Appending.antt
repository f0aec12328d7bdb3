-- What tokens spell, one after another.
use Rattle.std.proofs.Common.{◌≡◌, List, [], ◌∷◌, ◌++◌, refl, sym, ap, ◌∙◌, append_assoc}
use Rattle.miette_runs.specs.rules.Sequences.{Token, spell, spelling}

pub spell-append : (us vs : List Token) → spell (us ++ vs) ≡ spell us ++ spell vs
spell-append [] vs = refl
spell-append (u ∷ us) vs = ap (λ xs. spelling u ++ xs) (spell-append us vs)
    ∙ sym (append_assoc (spelling u) (spell us) (spell vs))
