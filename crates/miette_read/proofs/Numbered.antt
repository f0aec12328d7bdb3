-- What is told of items one after the other, of each by its number.
use Rattle.std.proofs.Common.{◌≡◌, ℕ, ◌+◌, ◌<◌, List, [], ◌∷◌, ◌++◌, length, get_or, take, map, sym, ap, ◌∙◌}
use Rattle.std.proofs.Common.{arith, append_assoc}
use Rattle.std.proofs.lemmas.List.{map-append}
use Rattle.std.proofs.lemmas.Grind.{common_steps}
use Rattle.miette_read.proofs.Steps.{next_taken}

length_taken : {V D : Type 0} (look : V → D) (xs : List V) (i : ℕ) → i < length xs
    → length (map look (take i xs)) ≡ i
length_taken look xs i h = grind (arith, common_steps)

-- what is told of one with a number, and of all from a number on
module _ {D T : Type 0} (one : ℕ → D → T) (all : ℕ → List D → List T) (none : (n : ℕ) → all n [] ≡ [])
    (next : (n : ℕ) (d : D) (ds : List D) → all n (d ∷ ds) ≡ one n d ∷ all (n + 1) ds) where
  last_told : (k n : ℕ) (ds : List D) (d : D) → n ≡ k + length ds
      → all k (ds ++ d ∷ []) ≡ all k ds ++ one n d ∷ []
  last_told k n [] d is =
      let same : k ≡ n = omega (arith, is) in
      next k d [] ∙ ap (λ l. one k d ∷ l) (none (k + 1)) ∙ ap (λ (m : ℕ). one m d ∷ []) same
      ∙ ap (λ l. l ++ one n d ∷ []) (sym (none k))
  last_told k n (e ∷ es) d is =
      let same : n ≡ (k + 1) + length es = omega (arith, is) in
      next k e (es ++ d ∷ []) ∙ ap (λ l. one k e ∷ l) (last_told (k + 1) n es d same)
      ∙ ap (λ l. l ++ one n d ∷ []) (sym (next k e es))

  pub one_more_told : {V : Type 0} (look : V → D) (xs : List V) (i : ℕ) (x : V) → i < length xs → x ≡ get_or xs i x
      → (initial old new : List T) (n : ℕ) (made : T) → n ≡ i + 1 → made ≡ one n (look x) → new ≡ old ++ made ∷ []
      → old ≡ initial ++ all 1 (map look (take i xs)) → new ≡ initial ++ all 1 (map look (take (i + 1) xs))
  one_more_told look xs i x h is initial old new n made number e pushed inv =
      let before = all 1 (map look (take i xs)) in
      let len = length_taken look xs i h in
      let more : n ≡ 1 + length (map look (take i xs)) = omega (arith, number, len) in
      let whole : all 1 (map look (take (i + 1) xs)) ≡ before ++ one n (look x) ∷ [] =
      ap (λ l. all 1 (map look l)) (next_taken xs i x h is)
      ∙ ap (all 1) (map-append look (take i xs) (x ∷ []))
      ∙ last_told 1 n (map look (take i xs)) (look x) more in
      pushed ∙ ap (λ l. l ++ made ∷ []) inv ∙ append_assoc initial before (made ∷ [])
      ∙ ap (λ t. initial ++ (before ++ t ∷ [])) e ∙ ap (λ l. initial ++ l) (sym whole)
