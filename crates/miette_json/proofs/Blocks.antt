-- The mask of a block: of its bytes that may not stand for themselves.
use Rattle.std.proofs.Common.{◌≡◌, ℕ, ◌%◌, ◌^◌, ltb, Bool, true, false, ◌||◌, cond, eqb}
use Rattle.std.proofs.Common.{List, [], ◌∷◌, map, length, replicate, refl, ap, ap₂, ◌∙◌, arith, bit_or}
use Rattle.std.proofs.lemmas.Simd.{mask_l-mod, zip2_of_maps, zip2_splat}
use Rattle.std.proofs.lemmas.List.{length-map}
use Rattle.miette_json.specs.steps.EscapedBytes.{is_escaped}
use lib.Lanes.{zip2, mask_l, top}

abbrev hit : ℕ → ℕ → ℕ
hit a b = cond (eqb a b) 255 0

abbrev below : ℕ → ℕ → ℕ
below a b = cond (ltb a b) 255 0

-- the top bit of a lane in which one of three tests holds
any_of : (a b c : Bool) → top 7 (bit_or (bit_or (cond a 255 0) (cond b 255 0)) (cond c 255 0)) ≡ (a || (b || c))
any_of true true true = refl
any_of true true false = refl
any_of true false true = refl
any_of true false false = refl
any_of false true true = refl
any_of false true false = refl
any_of false false true = refl
any_of false false false = refl

each_lane : (v : List ℕ) → map (top 7) (map (λ x. bit_or (bit_or (below x 32) (hit x 34)) (hit x 92)) v)
    ≡ map is_escaped v
each_lane [] = refl
each_lane (x ∷ xs) = ap₂ (λ a b. a ∷ b) (any_of (ltb x 32) (eqb x 34) (eqb x 92)) (each_lane xs)

pub escapes_mask : (v : List ℕ) → length v ≡ 16 → mask_l (map (top 7) (zip2 bit_or (zip2 bit_or
    (zip2 below v (replicate 16 32)) (zip2 hit v (replicate 16 34))) (zip2 hit v (replicate 16 92)))) % 2 ^ 64
    ≡ mask_l (map is_escaped v)
escapes_mask v long =
    let lanes = zip2_of_maps bit_or _ _ v (zip2_of_maps bit_or _ _ v (zip2_splat below v 16 32 long)
    (zip2_splat hit v 16 34 long)) (zip2_splat hit v 16 92 long) in
    ap (λ l. mask_l (map (top 7) l) % 2 ^ 64) lanes ∙ ap (λ l. mask_l l % 2 ^ 64) (each_lane v)
    ∙ mask_l-mod (map is_escaped v) 64 (omega (arith, length-map v is_escaped, long))
