-- A text that is written part by part: what is left of it leads from where the formatter is to the end.
use Rattle.std.proofs.Common.{◌≡◌, ℕ, List, ◌∷◌, ◌++◌, refl}
use Rattle.std.specs.Prelude.{Ok, Result}
use Rattle.std.specs.Fmt.{HasWritten, IsPlainFormatter, WritesOnOk}
use Rattle.std.specs.declared.fmt.Error.{Error}
use Rattle.std.specs.declared.fmt.Formatter.{Formatter}
use Rattle.std.proofs.Output.{has_written_append}
use Rattle.miette_tree.specs.rules.Display.{after_colons}
use Rattle.miette_tree.specs.rules.Tree.{Tree, tree, head, cause_of, causes_of, chain_of}

module _ {W : Type 0} (took : W → List ℕ → W → Type 0) where
  -- where f is plain, g is too, and with the rest written from g on all is written from f on
  abbrev pub LeadsOn : Formatter W → Formatter W → List ℕ → List ℕ → Type 0
  LeadsOn f g all rest = IsPlainFormatter f
      → IsPlainFormatter g × ((h : Formatter W) → HasWritten took g rest h → HasWritten took f all h)

  pub leads_from_start : (f : Formatter W) (all : List ℕ) → LeadsOn f f all all
  leads_from_start f all = λ plain. (plain, λ h whole. whole)

  -- one part more is written
  pub leads_further : (f g k : Formatter W) (all part rest : List ℕ) → LeadsOn f g all (part ++ rest)
      → WritesOnOk took g (Ok tt) part k → LeadsOn f k all rest
  leads_further f g k all part rest so_far wrote = λ plain.
      let (here, on) = so_far plain in
      let one = wrote here refl in
      (one.plain, λ h end. on h (has_written_append took g part k rest h one end))

  -- what is left is written
  pub leads_to_end : (f g h : Formatter W) (r : Result (Unit {0}) Error) (all rest : List ℕ) → LeadsOn f g all rest
      → WritesOnOk took g r rest h → WritesOnOk took f r all h
  leads_to_end f g h r all rest so_far wrote = λ plain ok.
      let (here, on) = so_far plain in on h (wrote here ok)

-- the first of a chain, and those after it
pub chain_led : (t : Tree) → after_colons (chain_of t)
    ≡ (58 ∷ 32 ∷ (head t).message) ++ after_colons (causes_of (cause_of t))
chain_led (tree m s c r) = refl
