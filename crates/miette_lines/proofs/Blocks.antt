-- Bytes before the first one that a test holds of, LF or CR say, seen a block at a time by a mask of those it holds of.
use Rattle.std.proofs.Common.{◌≡◌, ℕ, ◌+◌, ◌*◌, ◌%◌, ◌^◌, ◌<◌, ◌≤◌, Bool, true, false, not, ◌||◌, cond, eqb}
use Rattle.std.proofs.Common.{List, [], ◌∷◌, Some, None, map, length, drop, replicate, refl, sym, ap, ap₂, ◌∙◌, arith}
use Rattle.std.proofs.Common.{bit_or, get_or}
use Rattle.std.specs.List.{prefix_len}
use Rattle.std.proofs.lemmas.Simd.{chunk-drop, length-chunk, leading_from_mask_l, trailing_mask_l, zip2_splat}
use Rattle.std.proofs.lemmas.Simd.{zip2_of_maps, mask_l-mod}
use Rattle.std.proofs.lemmas.List.{length-map}
use Rattle.std.proofs.lemmas.List.Folds.{prefix_len-append}
use Rattle.std.proofs.lemmas.List.Sums.{prefix_len-le-length, prefix_len_passes, prefix_len_stops}
use Rattle.std.proofs.lemmas.Bool.{eq-eqb, ne_eqb}
use Rattle.memchr.specs.Find.{IsFirstByte, Nowhere, Passes, is_byte2}
use lib.Lanes.{chunk, zip2, mask_l, top}
use lib.Count.{count_trailing_zeros}

-- LF or CR
abbrev is_break : ℕ → Bool
is_break = is_byte2 10 13

abbrev is_plain : ℕ → Bool
is_plain b = not (is_break b)

-- ---- the mask of a block

abbrev hit : ℕ → ℕ → ℕ
hit a b = cond (eqb a b) 255 0

-- the top bit of a lane in which one of two tests holds
pub any_of : (a b : Bool) → top 7 (bit_or (cond a 255 0) (cond b 255 0)) ≡ (a || b)
any_of true true = refl
any_of true false = refl
any_of false true = refl
any_of false false = refl

each_lane : (v : List ℕ) → map (top 7) (map (λ x. bit_or (hit x 10) (hit x 13)) v) ≡ map is_break v
each_lane [] = refl
each_lane (x ∷ xs) = ap₂ (λ a b. a ∷ b) (any_of (eqb x 10) (eqb x 13)) (each_lane xs)

pub breaks_mask : (v : List ℕ) → length v ≡ 64 → mask_l (map (top 7) (zip2 bit_or
    (zip2 hit v (replicate 64 10)) (zip2 hit v (replicate 64 13)))) % 2 ^ 64 ≡ mask_l (map is_break v)
breaks_mask v long =
    let lanes = zip2_of_maps bit_or _ _ v (zip2_splat hit v 64 10 long) (zip2_splat hit v 64 13 long) in
    ap (λ l. mask_l (map (top 7) l) % 2 ^ 64) lanes ∙ ap (λ l. mask_l l % 2 ^ 64) (each_lane v)
    ∙ mask_l-mod (map is_break v) 64 (omega (arith, length-map v is_break, long))

-- ---- what the mask of a block says of the bytes before the first one that a test holds of

no_mask : (b : Bool) (n l m : ℕ) → n ≤ l → cond (not b) (1 + n) 0 ≡ 1 + l → (n ≡ l → m ≡ 0) → cond b 1 0 + 2 * m ≡ 0
no_mask true n l m le e f = absurd (omega (arith, e))
no_mask false n l m le e f = let none = f (omega (arith, e)) in omega (arith, none)

-- how many stand before it, or at all
abbrev len_before : (ℕ → Bool) → List ℕ → ℕ
len_before p = prefix_len (λ b. not (p b))

all_before : (p : ℕ → Bool) (xs : List ℕ) → len_before p xs ≡ length xs → mask_l (map p xs) ≡ 0
all_before p [] e = refl
all_before p (x ∷ xs) e =
    no_mask (p x) (len_before p xs) (length xs) (mask_l (map p xs)) (prefix_len-le-length (λ b. not (p b)) xs)
    (omega (arith, e)) (all_before p xs)

split : (p : ℕ → Bool) (d : List ℕ) (i n : ℕ) → len_before p (drop i d)
    ≡ cond (eqb (len_before p (chunk i n d)) (length (chunk i n d)))
    (length (chunk i n d) + len_before p (drop (i + n) d)) (len_before p (chunk i n d))
split p d i n =
    ap (len_before p) (chunk-drop i n d) ∙ prefix_len-append (λ b. not (p b)) (chunk i n d) (drop (i + n) d)

-- `i` bytes were passed, each of which passes a test
abbrev pub HasPassed : (ℕ → Bool) → List ℕ → ℕ → Type 0
HasPassed q d i = record { within : i ≤ length d; told : i + prefix_len q (drop i d) ≡ prefix_len q d }

-- a block without one is passed
pub passed : (p : ℕ → Bool) (d : List ℕ) (i n mask : ℕ) → i + n ≤ length d → mask ≡ mask_l (map p (chunk i n d))
    → mask ≡ 0 → HasPassed (λ b. not (p b)) d i → HasPassed (λ b. not (p b)) d (i + n)
passed p d i n mask room is none h =
    let c = chunk i n d in
    let more = len_before p (drop (i + n) d) in
    let run : len_before p (drop i d) ≡ n + more = split p d i n ∙ ap (λ b. cond b (length c + more) (len_before p c))
    (eq-eqb _ _ (leading_from_mask_l p c (sym is ∙ none))) ∙ ap (λ k. k + more) (length-chunk i n d room) in
    record { within = room; told = omega (arith, run, h.told) }

-- in another one the lowest bit is that of the first
pub stopped : (p : ℕ → Bool) (d : List ℕ) (i n mask : ℕ) → i + n ≤ length d → n ≤ 64
    → mask ≡ mask_l (map p (chunk i n d)) → 0 < mask → HasPassed (λ b. not (p b)) d i
    → i + count_trailing_zeros 64 mask ≡ len_before p d
stopped p d i n mask room short is some h =
    let c = chunk i n d in
    let own : 0 < mask_l (map p c) = omega (arith, is, some) in
    let run : len_before p (drop i d) ≡ count_trailing_zeros 64 mask =
    split p d i n ∙ ap (λ b. cond b (length c + len_before p (drop (i + n) d)) (len_before p c))
    (ne_eqb _ _ (λ (e : len_before p c ≡ length c). omega (arith, all_before p c e, own)))
    ∙ sym (ap (count_trailing_zeros 64) is ∙ trailing_mask_l p 64 c (omega (arith, length-chunk i n d room)) own) in
    omega (arith, run, h.told)

-- ---- the first of all

is_seen : (b : Bool) → not b ≡ false → b ≡ true
is_seen true h = refl
is_seen false h = absurd (cc)

is_unseen : (b : Bool) → not b ≡ true → b ≡ true → ⊥
is_unseen true h k = absurd (cc)
is_unseen false h k = absurd (cc)

none-before : (bs : List ℕ) (n : ℕ) → n ≡ prefix_len is_plain bs → Nowhere (Passes is_break bs) 0 n
none-before bs n e = λ k lo lt found. is_unseen (is_break (get_or bs k 0))
    (prefix_len_passes is_plain bs k 0 (omega (arith, e, lt))) found

pub first-here : (bs : List ℕ) (n : ℕ) → n ≡ prefix_len is_plain bs → n < length bs → IsFirstByte is_break bs (Some n)
first-here bs n e h =
    let own : is_plain (get_or bs n 0) ≡ false = ap (λ k. is_plain (get_or bs k 0)) e
    ∙ prefix_len_stops is_plain bs 0 (omega (arith, e, h)) in (
      record { low = omega arith; high = h; before = none-before bs n e },
      is_seen (is_break (get_or bs n 0)) own,
    )

pub first-nowhere : (bs : List ℕ) (n : ℕ) → n ≡ prefix_len is_plain bs → length bs ≤ n → IsFirstByte is_break bs None
first-nowhere bs n e h =
    λ k lo lt found. none-before bs n e k lo (omega (arith, h, lt)) found
