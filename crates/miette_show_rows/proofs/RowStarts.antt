-- Where rows begin.
use Rattle.std.proofs.Common.{◌≡◌, ℕ, zero, suc, ◌+◌, ◌-◌, ◌<◌, ◌≤◌, List, [], ◌∷◌, Bool, true, false, length, take}
use Rattle.std.proofs.Common.{drop, refl, sym, ap, ap₂, ◌∙◌, arith, eq-eqb}
use Rattle.std.specs.Prelude.{◌==◌, ◌||◌, ◌&&◌, if◌then◌else◌, nat_le, slice_range}
use Rattle.std.specs.List.{list_any}
use Rattle.std.proofs.lemmas.Bool.{false_from_ne_true}
use Rattle.std.proofs.lemmas.Bool.Decides.{nat_tests}
use Rattle.std.proofs.lemmas.List.{length-drop, length-take-le, take_all}
use Rattle.memchr.specs.Find.{NoneAfter, Nowhere, Passes, is_byte}
use Rattle.serde_json.specs.Data.{Data}
use Rattle.miette_show_rows.specs.rules.CurrentSpans.{begin_with, column_after, last_row, row_start, stand_in}

abbrev Ends : List ℕ → ℕ → Type 0
Ends bytes = Passes (is_byte 10) bytes

abbrev has_end : List ℕ → Bool
has_end bytes = list_any (is_byte 10) bytes

later_not : (b : ℕ) (bs : List ℕ) (from n : ℕ) → Nowhere (Ends (b ∷ bs)) (suc from) (suc n) → Nowhere (Ends bs) from n
later_not b bs from n none = λ k low high. none (suc k) (omega (arith, low)) (omega (arith, high))

none_there : (bs : List ℕ) → Nowhere (Ends bs) 0 (length bs) → has_end bs ≡ false
none_there [] none = refl
none_there (b ∷ bs) none =
    ap₂ (λ x y. x || y) (false_from_ne_true (b == 10) (none 0 (omega arith) (omega arith)))
    (none_there bs (λ k low high. none (suc k) (omega arith) (omega (arith, high))))

one_there : (bs : List ℕ) (at : ℕ) → at < length bs → Ends bs at → has_end bs ≡ true
one_there [] at h is = absurd (omega (arith, h))
one_there (b ∷ bs) zero h is = ap (λ x. x || has_end bs) is
one_there (b ∷ bs) (suc at) h is = ap (λ y. (b == 10) || y) (one_there bs at (omega (arith, h)) is) ∙ any_or (b == 10)
  where
    any_or : (x : Bool) → (x || true) ≡ true
    any_or true = refl
    any_or false = refl

pick : {A : Type 0} (b : Bool) (x y : A) → b ≡ true → (if b then x else y) ≡ x
pick true x y e = refl
pick false x y e = absurd (cc)

skip : {A : Type 0} (b : Bool) (x y : A) → b ≡ false → (if b then x else y) ≡ y
skip false x y e = refl
skip true x y e = absurd (cc)

all_last : (bs : List ℕ) → has_end bs ≡ false → last_row bs ≡ bs
all_last [] none = refl
all_last (b ∷ bs) none = skip (has_end (b ∷ bs)) (last_row bs) (b ∷ bs) none

last_after : (bs : List ℕ) (at : ℕ) → at < length bs → Ends bs at → Nowhere (Ends bs) (at + 1) (length bs)
    → last_row bs ≡ drop (at + 1) bs
last_after [] at h is none = absurd (omega (arith, h))
last_after (b ∷ bs) zero h is none =
    pick (has_end (b ∷ bs)) (last_row bs) (b ∷ bs) (one_there (b ∷ bs) 0 h is)
    ∙ all_last bs (none_there bs (λ k low high. none (suc k) (omega arith) (omega (arith, high))))
last_after (b ∷ bs) (suc at) h is none =
    let next : suc at + 1 ≡ suc (at + 1) = omega arith in
    pick (has_end (b ∷ bs)) (last_row bs) (b ∷ bs) (one_there (b ∷ bs) (suc at) h is)
    ∙ last_after bs at (omega (arith, h)) is (λ k low high. none (suc k) (omega (arith, low)) (omega (arith, high)))
    ∙ ap (λ (n : ℕ). drop n (b ∷ bs)) (sym next)

-- ---- before an offset

abbrev before : List ℕ → ℕ → List ℕ
before bytes offset = take offset bytes

as_many : (bytes : List ℕ) (offset : ℕ) → offset ≤ length bytes → length (before bytes offset) ≡ offset
as_many bytes offset h = length-take-le offset bytes h

pub start_none : (bytes : List ℕ) (offset : ℕ) → offset ≤ length bytes
    → Nowhere (Ends (before bytes offset)) 0 (length (before bytes offset)) → 0 ≡ row_start bytes offset
start_none bytes offset h none =
    let all : length (last_row (before bytes offset)) ≡ offset =
    ap length (all_last (before bytes offset) (none_there (before bytes offset) none)) ∙ as_many bytes offset h
    in
    omega (arith, all)

pub start_found : (bytes : List ℕ) (offset at : ℕ) → offset ≤ length bytes
    → NoneAfter (Ends (before bytes offset)) 0 (length (before bytes offset)) at → Ends (before bytes offset) at
    → at + 1 ≡ row_start bytes offset
start_found bytes offset at h after is =
    let many : length (before bytes offset) ≡ offset = as_many bytes offset h in
    let high : at < length (before bytes offset) = after.high in
    let left : length (last_row (before bytes offset)) ≡ length (before bytes offset) - (at + 1) =
    ap length (last_after (before bytes offset) at high is after.after) ∙ length-drop (at + 1) (before bytes offset)
    in
    omega (arith, many, high, left)

-- ---- rows from there on

pub left_of : (bytes : List ℕ) (start : ℕ) → take (length bytes - start) (drop start bytes) ≡ drop start bytes
left_of bytes start = take_all (length bytes - start) (drop start bytes) (omega (arith, length-drop start bytes))

module _ (bytes : List ℕ) (at column start n : ℕ) (rows : List Data) (within : at ≤ length bytes)
    (is : start ≡ row_start bytes at) (counted : n ≡ column_after (slice_range bytes start at)) where
  by_parts : ((n == column) && begin_with rows (drop start bytes)) ≡ stand_in bytes at column rows
  by_parts =
      let inside : nat_le at (length bytes) ≡ true = grind (arith, nat_tests) in
      ap (λ (m : ℕ). (m == column) && begin_with rows (drop start bytes)) counted
      ∙ ap (λ (s : ℕ). (column_after (slice_range bytes s at) == column) && begin_with rows (drop s bytes)) is
      ∙ sym (pick (nat_le at (length bytes)) _ false inside)

  pub is_edit_current : (b : Bool) → n ≡ column → b ≡ begin_with rows (drop start bytes) → b
      ≡ stand_in bytes at column rows
  is_edit_current b same e =
      e ∙ sym (ap (λ t. t && begin_with rows (drop start bytes)) (eq-eqb n column same)) ∙ by_parts

  pub stands_not : (n == column) ≡ false → (n == column) ≡ stand_in bytes at column rows
  stands_not e = e ∙ sym (ap (λ t. t && begin_with rows (drop start bytes)) e) ∙ by_parts
