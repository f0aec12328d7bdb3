-- A test of all items, and one of several items more, by what is seen of them.
use Rattle.std.proofs.Common.{◌≡◌, ℕ, ◌+◌, ◌<◌, List, [], ◌∷◌, ◌++◌, Bool, Option, length, get_or, take, map, refl, sym}
use Rattle.std.proofs.Common.{ap, ◌∙◌, append_assoc}
use Rattle.std.specs.Prelude.{◌&&◌}
use Rattle.std.specs.List.{cons_option, filter_map, list_all}
use Rattle.std.proofs.lemmas.List.{map-append}
use Rattle.std.proofs.lemmas.List.Elements.{filter_map-append}
use Rattle.miette_read.proofs.Steps.{next_taken}

pub all_of : {V W : Type 0} (look : V → W) (p : W → Bool) (xs : List V)
    → list_all (λ x. p (look x)) xs ≡ list_all p (map look xs)
all_of look p [] = refl
all_of look p (x ∷ xs) = ap (λ b. p (look x) && b) (all_of look p xs)

module _ {V W : Type 0} (look : V → W) (xs : List V) (i : ℕ) (x : V) (h : i < length xs) (is : x ≡ get_or xs i x) where
  pub maybe_more : {Y : Type 0} (g : W → Option Y) (initial old new : List Y)
      → new ≡ old ++ cons_option (g (look x)) [] → old ≡ initial ++ filter_map g (map look (take i xs))
      → new ≡ initial ++ filter_map g (map look (take (i + 1) xs))
  maybe_more g initial old new pushed inv =
      let before = filter_map g (map look (take i xs)) in
      let all : filter_map g (map look (take (i + 1) xs)) ≡ before ++ cons_option (g (look x)) [] =
      ap (λ l. filter_map g (map look l)) (next_taken xs i x h is)
      ∙ ap (filter_map g) (map-append look (take i xs) (x ∷ []))
      ∙ filter_map-append g (map look (take i xs)) (look x ∷ [])
      in
      pushed ∙ ap (λ l. l ++ cons_option (g (look x)) []) inv
      ∙ append_assoc initial before (cons_option (g (look x)) [])
      ∙ ap (λ l. initial ++ l) (sym all)
