-- Inputs that give no text.
use Rattle.std.proofs.Common.{◌≡◌, ℕ, List, Result, Ok, Err, IfErr, inr, subst}
use Rattle.miette_tree.specs.rules.Tree.{Tree}
use Rattle.miette.specs.rules.Inputs.{GivesNoText, IsNoText}

pub named_input : {T R : Type 0} (r : Result T R) (tree : R → Tree) (name shown bytes : List ℕ) → name ≡ shown
    → IfErr r (λ x. IsNoText name bytes (tree x)) → IfErr r (λ x. GivesNoText shown (tree x))
named_input (Ok t) tree name shown bytes same h = tt
named_input (Err x) tree name shown bytes same h =
    inr (bytes, subst (λ n. IsNoText n bytes (tree x)) same h)
