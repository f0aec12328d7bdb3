-- Printable ASCII, seen a block at a time by a mask of the bytes that are none.
use Rattle.std.proofs.Common.{◌≡◌, ℕ, ◌+◌, ◌*◌, ◌%◌, ◌^◌, ◌<◌, ◌≤◌, ltb, Bool, true, false, ◌&&◌, ◌||◌, cond, bit_or}
use Rattle.std.proofs.Common.{List, [], ◌∷◌, ◌++◌, map, length, drop, replicate, get_or, refl, sym, ap, ap₂, ◌∙◌, arith}
use Rattle.std.specs.Prelude.{nat_le}
use Rattle.std.proofs.lemmas.Bool.Decides.{nat_tests}
use Rattle.std.proofs.lemmas.List.{drop_all, drop_more, length-map}
use Rattle.std.proofs.lemmas.Simd.{chunk-drop, mask_l-mod, zip2_of_maps, zip2_splat, zip2_splat_left}
use Rattle.std.proofs.Math.Bool.{and-false, and_assoc}
use Rattle.miette_lines.proofs.Blocks.{any_of}
use Rattle.miette_text.specs.steps.Fitting.{all_printable, is_other}
use lib.Lanes.{chunk, zip2, mask_l, top}

-- ---- the mask of a block

abbrev below : ℕ → ℕ → ℕ
below a b = cond (ltb a b) 255 0

each_lane : (v : List ℕ) → map (top 7) (map (λ x. bit_or (below x 32) (below 126 x)) v) ≡ map is_other v
each_lane [] = refl
each_lane (x ∷ xs) = ap₂ (λ a b. a ∷ b) (any_of (ltb x 32) (ltb 126 x)) (each_lane xs)

pub others_mask : (v : List ℕ) → length v ≡ 16 → mask_l (map (top 7) (zip2 bit_or
    (zip2 below v (replicate 16 32)) (zip2 below (replicate 16 126) v))) % 2 ^ 64 ≡ mask_l (map is_other v)
others_mask v long =
    let lanes = zip2_of_maps bit_or _ _ v (zip2_splat below v 16 32 long) (zip2_splat_left below 126 16 v long) in
    ap (λ l. mask_l (map (top 7) l) % 2 ^ 64) lanes ∙ ap (λ l. mask_l l % 2 ^ 64) (each_lane v)
    ∙ mask_l-mod (map is_other v) 64 (omega (arith, length-map v is_other, long))

-- ---- what it says of a block

other_not : (c : ℕ) → is_other c ≡ true → (nat_le 32 c && nat_le c 126) ≡ false
other_not c h = grind (arith, nat_tests)

not_other : (c : ℕ) → is_other c ≡ false → (nat_le 32 c && nat_le c 126) ≡ true
not_other c h = grind (arith, nat_tests)

no_bits : (b : Bool) (m : ℕ) → cond b 1 0 + 2 * m ≡ 0 → (b ≡ false) × (m ≡ 0)
no_bits true m e = absurd (omega (arith, e))
no_bits false m e = (refl, omega (arith, e))

block_plain : (xs : List ℕ) → mask_l (map is_other xs) ≡ 0 → all_printable xs ≡ true
block_plain [] e = refl
block_plain (x ∷ xs) e =
    let none = no_bits (is_other x) (mask_l (map is_other xs)) e in
    ap₂ (λ a b. a && b) (not_other x none.0) (block_plain xs none.1)

block_other : (xs : List ℕ) → 0 < mask_l (map is_other xs) → all_printable xs ≡ false
block_other [] l = absurd (omega arith)
block_other (x ∷ xs) l =
    elim (is_other x) as (λ b. is_other x ≡ b → 0 < cond b 1 0 + 2 * mask_l (map is_other xs)
    → all_printable (x ∷ xs) ≡ false) [
      | true ↦ λ e k. ap (λ b. b && all_printable xs) (other_not x e)
      | false ↦ λ e k. ap (λ b. (nat_le 32 x && nat_le x 126) && b) (block_other xs (omega (arith, k)))
          ∙ and-false (nat_le 32 x && nat_le x 126)
    ] refl l

printable-append : (xs ys : List ℕ) → all_printable (xs ++ ys) ≡ (all_printable xs && all_printable ys)
printable-append [] ys = refl
printable-append (x ∷ xs) ys =
    ap (λ b. (nat_le 32 x && nat_le x 126) && b) (printable-append xs ys)
    ∙ sym (and_assoc (nat_le 32 x && nat_le x 126) (all_printable xs) (all_printable ys))

parts : (d : List ℕ) (i n : ℕ) → all_printable (drop i d)
    ≡ (all_printable (chunk i n d) && all_printable (drop (i + n) d))
parts d i n = ap all_printable (chunk-drop i n d) ∙ printable-append (chunk i n d) (drop (i + n) d)

-- a block without another byte is passed
pub plain_passed : (d : List ℕ) (i n : ℕ) → mask_l (map is_other (chunk i n d)) ≡ 0 → all_printable (drop i d)
    ≡ all_printable (drop (i + n) d)
plain_passed d i n e = parts d i n ∙ ap (λ b. b && all_printable (drop (i + n) d)) (block_plain (chunk i n d) e)

pub other_found : (d : List ℕ) (i n : ℕ) → 0 < mask_l (map is_other (chunk i n d)) → all_printable (drop i d) ≡ false
other_found d i n l = parts d i n ∙ ap (λ b. b && all_printable (drop (i + n) d)) (block_other (chunk i n d) l)

-- ---- byte by byte

pub byte_passed : (d : List ℕ) (i : ℕ) → i < length d → is_other (get_or d i 0) ≡ false → all_printable (drop i d)
    ≡ all_printable (drop (i + 1) d)
byte_passed d i l e = ap all_printable (drop_more d i 0 l)
    ∙ ap (λ b. b && all_printable (drop (i + 1) d)) (not_other (get_or d i 0) e)

pub byte_other : (d : List ℕ) (i : ℕ) → i < length d → is_other (get_or d i 0) ≡ true → all_printable (drop i d)
    ≡ false
byte_other d i l e = ap all_printable (drop_more d i 0 l)
    ∙ ap (λ b. b && all_printable (drop (i + 1) d)) (other_not (get_or d i 0) e)

pub all_passed : (d : List ℕ) (i : ℕ) → length d ≤ i → all_printable (drop i d) ≡ true
all_passed d i l = ap all_printable (drop_all i d l)
