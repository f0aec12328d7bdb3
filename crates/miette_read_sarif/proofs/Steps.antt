-- What is made of one item more of a list that a loop goes over, by what is seen of it.
use Rattle.std.proofs.Common.{◌≡◌, ℕ, ◌+◌, ◌<◌, ◌≤◌, List, [], ◌∷◌, ◌++◌, length, get_or, take, map, sym, ap, ◌∙◌}
use Rattle.std.proofs.Common.{append_assoc}
use Rattle.std.proofs.lemmas.List.{map-append, take_all}
use Rattle.miette_read.proofs.Steps.{next_taken}

module _ {V W : Type 0} (look : V → W) (xs : List V) (i : ℕ) (x : V) (h : i < length xs) (is : x ≡ get_or xs i x) where
  next_seen : map look (take (i + 1) xs) ≡ map look (take i xs) ++ look x ∷ []
  next_seen = ap (map look) (next_taken xs i x h is) ∙ map-append look (take i xs) (x ∷ [])

  pub more : {Y : Type 0} (made : List W → List Y) (part : List Y)
      → made (map look (take i xs) ++ look x ∷ []) ≡ made (map look (take i xs)) ++ part → (initial old new : List Y)
      → new ≡ old ++ part → old ≡ initial ++ made (map look (take i xs))
      → new ≡ initial ++ made (map look (take (i + 1) xs))
  more made part step initial old new pushed inv =
      pushed ∙ ap (λ l. l ++ part) inv ∙ append_assoc initial (made (map look (take i xs))) part
      ∙ ap (λ l. initial ++ l) (sym step) ∙ ap (λ l. initial ++ made l) (sym next_seen)

-- what is made of all of them, where a loop has gone over them
pub made_of_all : {V W Z : Type 0} (look : V → W) (made : List W → Z) (xs all : List V) (i : ℕ) (ws : List W) (now : Z)
    → length xs ≤ i → xs ≡ all → map look all ≡ ws → now ≡ made (map look (take i xs)) → now ≡ made ws
made_of_all look made xs all i ws now end same are inv =
    inv ∙ ap (λ vs. made (map look vs)) (take_all i xs end ∙ same) ∙ ap made are
