-- Calls of an iterator from both of its ends, where its state shows the list of what is left.
use Rattle.std.proofs.Common.{◌≡◌, List, [], ◌∷◌, ◌++◌, None, map, reverse, sym, ap, ◌∙◌, append-nil, append_assoc}
use Rattle.std.specs.Iterator.{YieldsFirstBy, YieldsLastBy, Yields}
use Rattle.std.proofs.lemmas.List.{reverse-append}
use Rattle.miette_tree.specs.laws.BothEnds.{EndItem, in_front, behind, Gives, front_of, back_of}

module _ {S A B : Type 0} (view : A → B) (rest : S → List B) where
  -- each item once: what was left is what was given in front, what is left now, and what was given at the back
  pub mixed : (taken : List (EndItem A)) (s t : S) → Gives (YieldsFirstBy view rest) (YieldsLastBy view rest) s taken t
      → rest s ≡ front_of view taken ++ (rest t ++ back_of view taken)
  mixed [] s t same = ap rest same ∙ sym (append-nil (rest t))
  mixed (in_front x ∷ more) s t given = given.1 ∙ ap (λ l. view x ∷ l) (mixed more given.0 t given.2)
  mixed (behind x ∷ more) s t given =
      given.1 ∙ (ap (λ l. l ++ view x ∷ []) (mixed more given.0 t given.2)
      ∙ (append_assoc (front_of view more) (rest t ++ back_of view more) (view x ∷ [])
      ∙ ap (λ l. front_of view more ++ l) (append_assoc (rest t) (back_of view more) (view x ∷ []))))

  -- all of it, from the front
  pub from_front : (xs : List A) (s t u : S) → Yields (YieldsFirstBy view rest) s xs t
      → YieldsFirstBy view rest t None u → map view xs ≡ rest s
  from_front [] s t u same end = sym (ap rest same ∙ end.0)
  from_front (x ∷ xs) s t u given end = ap (λ l. view x ∷ l) (from_front xs given.0 t u given.2 end) ∙ sym given.1

  -- all of it, from the back
  pub from_back : (xs : List A) (s t u : S) → Yields (YieldsLastBy view rest) s xs t → YieldsLastBy view rest t None u
      → map view xs ≡ reverse (rest s)
  from_back [] s t u same end = sym (ap reverse (ap rest same ∙ end.0))
  from_back (x ∷ xs) s t u given end = ap (λ l. view x ∷ l) (from_back xs given.0 t u given.2 end)
      ∙ sym (ap reverse given.1 ∙ reverse-append (rest given.0) (view x ∷ []))
