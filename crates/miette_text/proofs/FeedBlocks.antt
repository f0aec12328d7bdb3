-- The mask of a block: of its bytes that are line feeds.
use Rattle.std.proofs.Common.{◌≡◌, ℕ, ◌%◌, ◌^◌, Bool, true, false, cond, eqb}
use Rattle.std.proofs.Common.{List, [], ◌∷◌, map, length, replicate, refl, ap, ap₂, ◌∙◌, arith}
use Rattle.std.proofs.lemmas.Simd.{mask_l-mod, zip2_splat}
use Rattle.std.proofs.lemmas.List.{length-map}
use Rattle.miette_runs.specs.rules.Sequences.{is_line_feed}
use lib.Lanes.{zip2, mask_l, top}

abbrev hit : ℕ → ℕ → ℕ
hit a b = cond (eqb a b) 255 0

top_of : (a : Bool) → top 7 (cond a 255 0) ≡ a
top_of true = refl
top_of false = refl

each_lane : (v : List ℕ) → map (top 7) (map (λ x. hit x 10) v) ≡ map is_line_feed v
each_lane [] = refl
each_lane (x ∷ xs) = ap₂ (λ a b. a ∷ b) (top_of (eqb x 10)) (each_lane xs)

pub feeds_mask : (v : List ℕ) → length v ≡ 16 → mask_l (map (top 7) (zip2 hit v (replicate 16 10))) % 2 ^ 64
    ≡ mask_l (map is_line_feed v)
feeds_mask v long =
    ap (λ l. mask_l (map (top 7) l) % 2 ^ 64) (zip2_splat hit v 16 10 long) ∙ ap (λ l. mask_l l % 2 ^ 64) (each_lane v)
    ∙ mask_l-mod (map is_line_feed v) 64 (omega (arith, length-map v is_line_feed, long))
