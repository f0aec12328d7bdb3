-- The first end of a row in bytes.
use Rattle.std.proofs.Common.{◌≡◌, ℕ, zero, suc, ◌+◌, ◌<◌, List, [], ◌∷◌, ◌++◌, true, false, length, take}
use Rattle.std.proofs.Common.{drop, refl, sym, ap, ap₂, ◌∙◌, arith, append_assoc, Some, take-append-drop}
use Rattle.std.specs.Prelude.{◌==◌, ◌||◌}
use Rattle.std.proofs.lemmas.Bool.{eqb-true, false_from_ne_true}
use Rattle.memchr.specs.Find.{Nowhere, NoneBefore, Passes, is_byte}
use Rattle.miette_show_rows.specs.rules.Rows.{has_end}
use Rattle.miette_show_rows.specs.views.Reading.{IsRowEnd, IsTaken}

abbrev Ends : List ℕ → ℕ → Type 0
Ends bytes = Passes (is_byte 10) bytes

no_end : (b : ℕ) (bs : List ℕ) → (b == 10) ≡ false → has_end bs ≡ false → has_end (b ∷ bs) ≡ false
no_end b bs p q = ap₂ (λ x y. x || y) p q

first_not : (b : ℕ) (bs : List ℕ) (n : ℕ) → 0 < n → Nowhere (Ends (b ∷ bs)) 0 n → (b == 10) ≡ false
first_not b bs n h none = false_from_ne_true (b == 10) (none 0 (omega arith) h)

later_not : (b : ℕ) (bs : List ℕ) (n : ℕ) → Nowhere (Ends (b ∷ bs)) 0 (suc n) → Nowhere (Ends bs) 0 n
later_not b bs n none = λ k low high. none (suc k) (omega arith) (omega (arith, high))

pub none_found : (bs : List ℕ) → Nowhere (Ends bs) 0 (length bs) → has_end bs ≡ false
none_found [] none = refl
none_found (b ∷ bs) none =
    no_end b bs (first_not b bs (suc (length bs)) (omega arith) none)
    (none_found bs (later_not b bs (length bs) none))

pub text_before : (bs : List ℕ) (at : ℕ) → at < length bs → Nowhere (Ends bs) 0 at → has_end (take at bs) ≡ false
text_before [] at h none = absurd (omega (arith, h))
text_before (b ∷ bs) zero h none = refl
text_before (b ∷ bs) (suc at) h none =
    no_end b (take at bs) (first_not b bs (suc at) (omega arith) none)
    (text_before bs at (omega (arith, h)) (later_not b bs at none))

pub end_after : (bs : List ℕ) (at : ℕ) → at < length bs → Ends bs at → take (at + 1) bs ≡ take at bs ++ 10 ∷ []
end_after [] at h is = absurd (omega (arith, h))
end_after (b ∷ bs) zero h is = ap (λ c. c ∷ []) (eqb-true b 10 is)
end_after (b ∷ bs) (suc at) h is =
    let next : suc at + 1 ≡ suc (at + 1) = omega arith in
    ap (λ (n : ℕ). take n (b ∷ bs)) next ∙ ap (λ l. b ∷ l) (end_after bs at (omega (arith, h)) is)

-- the first end, and none
pub row_found : (bs : List ℕ) (at : ℕ) → NoneBefore (Ends bs) 0 (length bs) at → Ends bs at
    → IsRowEnd bs (Some (at + 1))
row_found bs at before is = (take at bs, text_before bs at before.high before.before, end_after bs at before.high is)

-- ---- what is taken of what is pending

pub taken_row : (pending left old new : List ℕ) (size : ℕ) → IsRowEnd pending (Some size) → left ≡ drop size pending
    → new ≡ old ++ take size pending → IsTaken pending left old new true
taken_row pending left old new size (text, free, cut) rest got = (
  text,
  free,
  sym (take-append-drop size pending) ∙ ap₂ (λ a b. a ++ b) cut (sym rest) ∙ append_assoc text (10 ∷ []) left,
  got ∙ ap (λ l. old ++ l) cut,
)
