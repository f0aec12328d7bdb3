-- Lines, places and counts as a scan from the front finds them.
use Rattle.std.proofs.Common.{◌≡◌, ℕ, suc, zero, ◌+◌, ◌-◌, ◌<◌, ◌≤◌, Bool, true, false, cond, ◌&&◌, List, [], ◌∷◌, ◌++◌}
use Rattle.std.proofs.Common.{length, min, max, inl, inr, refl, sym, ap, ◌∙◌, arith, add-one}
use Rattle.std.specs.Prelude.{nat_lt, nat_le, slice_index}
use Rattle.std.proofs.lemmas.Bool.{cases_lt, lt-ltb, le-ltb, le-leb, lt-leb, and_left, and_from, and_right}
use Rattle.std.proofs.lemmas.List.{get_or_append_left, get_or_push, length_push}
use Rattle.miette_lines.specs.rules.Lines.{ends_line, line_of, line_start, line_end, terminators_in}
use Rattle.miette_lines.specs.views.Index.{IsIndex}
use Rattle.miette_lines.proofs.Scans.{ends_before, after, ends_by, ends_count-lines_from, ends_before-suc}
use Rattle.miette_lines.proofs.Scans.{ends_before_past, after_here, after_all, after_le, after_gt, after_mono}
use Rattle.miette_lines.proofs.Scans.{after_lt, ends_before_all, ends_before_le, end_at-lines_from}
use Rattle.miette_lines.proofs.Scans.{start_at-lines_from}

pub ends_by_none : (x t : Bool) (n : ℕ) → t ≡ false → n ≡ 0 → cond x (cond t 1 0 + n) n ≡ 0
ends_by_none true true n e f = cc
ends_by_none true false n e f = omega arith
ends_by_none false t n e f = f

pub ends_by_one : (x t : Bool) (n m : ℕ) → t ≡ true → n ≡ m → cond x (cond t 1 0 + n) n ≡ cond x (suc m) m
ends_by_one true true n m e f = omega arith
ends_by_one true false n m e f = cc
ends_by_one false t n m e f = f

-- the terminators that end at an offset or before, in bytes that begin at another one
pub ends_by-le : (x at : ℕ) (bs : List ℕ) (j : ℕ) → j ≡ x - at → ends_by (λ e. nat_le e x) at bs ≡ ends_before j bs
ends_by-le x at [] zero e = refl
ends_by-le x at [] (suc j) e = refl
ends_by-le x at (b ∷ bs) zero e =
    ends_by_none (ends_line b (slice_index bs 0)) (nat_le (at + 1) x) (ends_by (λ e. nat_le e x) (at + 1) bs)
    (lt-leb (at + 1) x (omega (arith, e))) (ends_by-le x (at + 1) bs zero (omega (arith, e)))
ends_by-le x at (b ∷ bs) (suc j) e =
    ends_by_one (ends_line b (slice_index bs 0)) (nat_le (at + 1) x) (ends_by (λ e. nat_le e x) (at + 1) bs)
    (ends_before j bs)
    (le-leb (at + 1) x (omega (arith, e))) (ends_by-le x (at + 1) bs j (omega (arith, e)))

-- the number of an offset's line, by the terminators before it
pub line_of-is : (bs : List ℕ) (o : ℕ) → line_of bs o ≡ ends_before o bs
unfolding line_of
line_of-is bs o = ends_count-lines_from (λ e. nat_le e o) 0 bs ∙ ends_by-le o 0 bs o (omega arith)

sum_zero : (x t : Bool) (n m : ℕ) → t ≡ false → n + 0 ≡ 0 → cond x (cond t 1 0 + n) n + 0 ≡ 0
sum_zero true true n m e f = cc
sum_zero true false n m e f = omega (arith, f)
sum_zero false t n m e f = f

sum_in : (x t : Bool) (n m : ℕ) → t ≡ true → n + 0 ≡ m → cond x (cond t 1 0 + n) n + 0 ≡ cond x (suc m) m
sum_in true true n m e f = omega (arith, f)
sum_in true false n m e f = cc
sum_in false t n m e f = f

sum_before : (x t : Bool) (n i m : ℕ) → t ≡ false → n + i ≡ m → cond x (cond t 1 0 + n) n + cond x (suc i) i
    ≡ cond x (suc m) m
sum_before true true n i m e f = cc
sum_before true false n i m e f = omega (arith, f)
sum_before false t n i m e f = f

ends_by-in : (from to at : ℕ) (bs : List ℕ) (i j : ℕ) → from ≤ to → i ≡ from - at → j ≡ to - at →
    ends_by (λ e. nat_lt from e && nat_le e to) at bs + ends_before i bs ≡ ends_before j bs
ends_by-in from to at [] zero zero h e f = refl
ends_by-in from to at [] zero (suc j) h e f = refl
ends_by-in from to at [] (suc i) zero h e f = refl
ends_by-in from to at [] (suc i) (suc j) h e f = refl
ends_by-in from to at (b ∷ bs) zero zero h e f =
    sum_zero (ends_line b (slice_index bs 0)) (nat_lt from (at + 1) && nat_le (at + 1) to)
    (ends_by (λ e. nat_lt from e && nat_le e to) (at + 1) bs) 0
    (and_right (nat_lt from (at + 1)) (nat_le (at + 1) to) (lt-leb (at + 1) to (omega (arith, f))))
    (ends_by-in from to (at + 1) bs zero zero h (omega (arith, e)) (omega (arith, f)))
ends_by-in from to at (b ∷ bs) zero (suc j) h e f =
    sum_in (ends_line b (slice_index bs 0)) (nat_lt from (at + 1) && nat_le (at + 1) to)
    (ends_by (λ e. nat_lt from e && nat_le e to) (at + 1) bs) (ends_before j bs)
    (and_from (nat_lt from (at + 1)) (nat_le (at + 1) to) (lt-ltb from (at + 1) (omega (arith, e)))
    (le-leb (at + 1) to (omega (arith, f))))
    (ends_by-in from to (at + 1) bs zero j h (omega (arith, e)) (omega (arith, f)))
ends_by-in from to at (b ∷ bs) (suc i) zero h e f = absurd (omega (arith, e, f, h))
ends_by-in from to at (b ∷ bs) (suc i) (suc j) h e f =
    sum_before (ends_line b (slice_index bs 0)) (nat_lt from (at + 1) && nat_le (at + 1) to)
    (ends_by (λ e. nat_lt from e && nat_le e to) (at + 1) bs) (ends_before i bs) (ends_before j bs)
    (and_left (nat_lt from (at + 1)) (nat_le (at + 1) to) (le-ltb from (at + 1) (omega (arith, e))))
    (ends_by-in from to (at + 1) bs i j h (omega (arith, e)) (omega (arith, f)))

-- the terminators from one offset to another are the difference of the lines' numbers
pub terminators_in-line_of : (bs : List ℕ) (from to : ℕ) → from ≤ to → terminators_in bs from to + line_of bs from
    ≡ line_of bs to
unfolding terminators_in
terminators_in-line_of bs from to h =
    let a : terminators_in bs from to ≡ ends_by (λ e. nat_lt from e && nat_le e to) 0 bs =
    ends_count-lines_from (λ e. nat_lt from e && nat_le e to) 0 bs in
    let b : ends_by (λ e. nat_lt from e && nat_le e to) 0 bs + ends_before from bs ≡ ends_before to bs =
    ends_by-in from to 0 bs from to h (omega arith) (omega arith) in
    omega (arith, a, b, line_of-is bs from, line_of-is bs to)

pub line_start-is : (bs : List ℕ) (k : ℕ) → line_start bs k ≡ after k bs
unfolding line_start
line_start-is bs k = start_at-lines_from 0 bs k (length bs) (omega arith) ∙ omega arith

pub line_end-is : (bs : List ℕ) (k : ℕ) → line_end bs k ≡ after (suc k) bs
unfolding line_end
line_end-is bs k = end_at-lines_from 0 bs k (length bs) (omega arith) ∙ omega arith

-- what a scan knows at its start, and after each byte

pub line_of_none : (bs : List ℕ) → line_of bs 0 ≡ 0
line_of_none bs = line_of-is bs 0

pub line_of_yes : (bs : List ℕ) (at : ℕ) → ends_line (slice_index bs at) (slice_index bs (at + 1)) ≡ true
    → line_of bs (at + 1) ≡ line_of bs at + 1
line_of_yes bs at t =
    let u : ends_line (slice_index bs at) (slice_index bs (suc at)) ≡ true = simp add-one at t in
    let s : ends_before (suc at) bs ≡ suc (ends_before at bs) = ends_before-suc at bs
    ∙ ap (λ (x : Bool). cond x (suc (ends_before at bs)) (ends_before at bs)) u in
    let a : line_of bs (suc at) ≡ ends_before (suc at) bs = line_of-is bs (suc at) in
    let b : line_of bs (suc at) ≡ suc (line_of bs at) = omega (arith, s, a, line_of-is bs at) in
    simp add-one b

pub line_of_no : (bs : List ℕ) (at : ℕ) → ends_line (slice_index bs at) (slice_index bs (at + 1)) ≡ false
    → line_of bs (at + 1) ≡ line_of bs at
line_of_no bs at t =
    let u : ends_line (slice_index bs at) (slice_index bs (suc at)) ≡ false = simp add-one at t in
    let s : ends_before (suc at) bs ≡ ends_before at bs = ends_before-suc at bs
    ∙ ap (λ (x : Bool). cond x (suc (ends_before at bs)) (ends_before at bs)) u in
    let a : line_of bs (suc at) ≡ ends_before (suc at) bs = line_of-is bs (suc at) in
    let b : line_of bs (suc at) ≡ line_of bs at = omega (arith, s, a, line_of-is bs at) in
    simp add-one b

pub line_of_past : (bs : List ℕ) (o : ℕ) → length bs ≤ o → line_of bs o ≡ line_of bs (length bs)
line_of_past bs o h = line_of-is bs o ∙ ends_before_past o bs h ∙ sym (line_of-is bs (length bs))

-- a line's number is no greater than an offset in it
pub line_of_le : (bs : List ℕ) (o n : ℕ) → n ≡ line_of bs o → n ≤ o
line_of_le bs o n e = omega (arith, e, line_of-is bs o, ends_before_le o bs)

-- a terminator that a scan comes to ends the line of its offset
pub line_end_here : (bs : List ℕ) (at : ℕ) → at < length bs → ends_line (slice_index bs at) (slice_index bs (at + 1))
    ≡ true → line_end bs (line_of bs at) ≡ at + 1
line_end_here bs at h t =
    let u : ends_line (slice_index bs at) (slice_index bs (suc at)) ≡ true = simp add-one at t in
    line_end-is bs (line_of bs at) ∙ ap (λ k. after (suc k) bs) (line_of-is bs at) ∙ after_here at bs h u ∙ omega arith

pub line_end_at : (bs : List ℕ) (at k : ℕ) → at < length bs → ends_line (slice_index bs at) (slice_index bs (at + 1))
    ≡ true → k ≡ line_of bs at → line_end bs k ≡ at + 1
line_end_at bs at k h t e = ap (line_end bs) e ∙ line_end_here bs at h t

pub line_end_past : (bs : List ℕ) (k : ℕ) → line_of bs (length bs) ≤ k → line_end bs k ≡ length bs
line_end_past bs k h = line_end-is bs k ∙ after_all bs (suc k) (omega (arith, h, line_of-is bs (length bs)))

pub line_start_first : (bs : List ℕ) → line_start bs 0 ≡ 0
line_start_first bs = line_start-is bs 0

pub line_start_next : (bs : List ℕ) (k : ℕ) → line_start bs (k + 1) ≡ line_end bs k
line_start_next bs k =
    let a : line_start bs (suc k) ≡ line_end bs k = line_start-is bs (suc k) ∙ sym (line_end-is bs k) in simp add-one a

pub line_start_after : (bs : List ℕ) (k j : ℕ) → k ≡ j + 1 → line_start bs k ≡ line_end bs j
line_start_after bs k j e = ap (line_start bs) e ∙ line_start_next bs j

-- the line after a terminator that a scan comes to begins there
pub line_start_here : (bs : List ℕ) (at k : ℕ) → at < length bs
    → ends_line (slice_index bs at) (slice_index bs (at + 1)) ≡ true → k ≡ line_of bs (at + 1) → at + 1
    ≡ line_start bs k
line_start_here bs at k h t e =
    sym (line_start_after bs k (line_of bs at) (e ∙ line_of_yes bs at t) ∙ line_end_here bs at h t)

pub line_start_none : (bs : List ℕ) (k : ℕ) → k ≡ 0 → 0 ≡ line_start bs k
line_start_none bs k e = sym (ap (line_start bs) e ∙ line_start_first bs)

pub line_start_le : (bs : List ℕ) (k o : ℕ) → k ≤ line_of bs o → line_start bs k ≤ o
line_start_le bs k o h = let a : after k bs ≤ o = after_le o bs k (omega (arith, h, line_of-is bs o)) in
    omega (arith, a, line_start-is bs k)

pub line_of_all : (bs : List ℕ) (o : ℕ) → line_of bs o ≤ line_of bs (length bs)
line_of_all bs o = omega (arith, ends_before_all o bs, line_of-is bs o, line_of-is bs (length bs))

pub line_end_mono : (bs : List ℕ) (i j : ℕ) → i ≤ j → line_end bs i ≤ line_end bs j
line_end_mono bs i j h =
    let a : after (suc i) bs ≤ after (suc j) bs = after_mono bs (suc i) (suc j) (omega (arith, h)) in
    omega (arith, a, line_end-is bs i, line_end-is bs j)

pub line_end_gt : (bs : List ℕ) (o : ℕ) → line_of bs o < line_of bs (length bs) → o < line_end bs (line_of bs o)
line_end_gt bs o h =
    let a : o < after (suc (ends_before o bs)) bs = after_gt o bs
    (omega (arith, h, line_of-is bs o, line_of-is bs (length bs))) in
    let e : line_end bs (line_of bs o) ≡ after (suc (ends_before o bs)) bs = line_end-is bs (line_of bs o)
    ∙ ap (λ k. after (suc k) bs) (line_of-is bs o) in
    omega (arith, a, e)

-- where the ends below a rank are at an offset or before and the others after it, the rank is the line
pub line_of_rank : (bs : List ℕ) (o r : ℕ) → r ≤ line_of bs (length bs) →
    ((k : ℕ) → k < r → line_end bs k ≤ o) → ((k : ℕ) → r ≤ k → k < line_of bs (length bs) → o < line_end bs k) → r
    ≡ line_of bs o
line_of_rank bs o r w below above =
    elim (cases_lt r (line_of bs o)) [
      | inl h ↦
          (let s : line_start bs (r + 1) ≤ o = line_start_le bs (r + 1) o (omega (arith, h)) in
          let t : line_of bs o ≤ line_of bs (length bs) = line_of_all bs o in
          let a : o < line_end bs r = above r (omega arith) (omega (arith, h, t)) in
          absurd (omega (arith, s, a, line_start_next bs r)))
      | inr h ↦ (elim (cases_lt (line_of bs o) r) [
        | inl g ↦
            (let a : line_end bs (line_of bs o) ≤ o = below (line_of bs o) g in
            let b : o < line_end bs (line_of bs o) = line_end_gt bs o (omega (arith, g, w)) in
            absurd (omega (arith, a, b)))
        | inr g ↦ omega (arith, h, g)
      ])
    ]

-- later lines begin later
pub line_start_mono : (bs : List ℕ) (i j : ℕ) → i ≤ j → line_start bs i ≤ line_start bs j
line_start_mono bs i j h = omega (arith, after_mono bs i j h, line_start-is bs i, line_start-is bs j)

-- no line with a terminator is empty
line_nonempty : (bs : List ℕ) (k : ℕ) → k < line_of bs (length bs) → line_start bs k < line_end bs k
line_nonempty bs k h =
    omega (arith, after_lt bs k (omega (arith, h, line_of-is bs (length bs))), line_start-is bs k, line_end-is bs k)

-- a line begins in itself
pub line_of_start : (bs : List ℕ) (k : ℕ) → k ≤ line_of bs (length bs) → k ≡ line_of bs (line_start bs k)
line_of_start bs k h =
    line_of_rank bs (line_start bs k) k h
    (λ i g. omega (arith, line_start_next bs i, line_start_mono bs (i + 1) k (omega (arith, g))))
    (λ i g l. omega (arith, line_nonempty bs i l, line_start_mono bs k i g))

-- the line that stands n before an offset's begins in itself
pub line_of_start_before : (bs : List ℕ) (o n : ℕ) → line_of bs o - n ≡ line_of bs (line_start bs (line_of bs o - n))
line_of_start_before bs o n = line_of_start bs (line_of bs o - n) (omega (arith, line_of_all bs o))

-- after the end of a line with a terminator comes the next line
pub line_of_end : (bs : List ℕ) (k : ℕ) → k < line_of bs (length bs) → k + 1 ≡ line_of bs (line_end bs k)
line_of_end bs k h = line_of_start bs (k + 1) (omega (arith, h)) ∙ ap (line_of bs) (line_start_next bs k)

pub line_of_zero : (bs : List ℕ) → 0 ≡ line_of bs 0
line_of_zero bs = sym (line_of_none bs)

-- a line after an offset's ends at the offset or after it
pub line_end_after : (bs : List ℕ) (o k : ℕ) → o ≤ length bs → line_of bs o ≤ k → o ≤ line_end bs k
line_end_after bs o k h e =
    elim (cases_lt (line_of bs o) (line_of bs (length bs))) [
      | inl g ↦
          omega (arith, line_end_gt bs o g, line_end_mono bs (line_of bs o) k e)
      | inr g ↦ omega (arith, h, line_end_past bs k (omega (arith, g, e)))
    ]

-- and past the offset, where that isn't the end
pub line_end_beyond : (bs : List ℕ) (o k : ℕ) → o < length bs → line_of bs o ≤ k → o < line_end bs k
line_end_beyond bs o k h e =
    elim (cases_lt (line_of bs o) (line_of bs (length bs))) [
      | inl g ↦
          omega (arith, line_end_gt bs o g, line_end_mono bs (line_of bs o) k e)
      | inr g ↦ omega (arith, h, line_end_past bs k (omega (arith, g, e)))
    ]

-- no line ends past the end
pub line_end_le : (bs : List ℕ) (k : ℕ) → line_end bs k ≤ length bs
line_end_le bs k =
    elim (cases_lt k (line_of bs (length bs))) [
      | inl g ↦
          omega (arith, line_start_le bs (k + 1) (length bs) (omega (arith, g)), line_start_next bs k)
      | inr g ↦ omega (arith, line_end_past bs k g)
    ]

-- nor does one begin past it
pub line_start_within : (bs : List ℕ) (k : ℕ) → line_start bs k ≤ length bs
line_start_within bs zero = omega (arith, line_start_first bs)
line_start_within bs (suc k) = omega (arith, line_start_after bs (suc k) k (omega arith), line_end_le bs k)

-- the line after one, or the last where there is none
pub line_of_next : (bs : List ℕ) (k : ℕ) → line_of bs (line_start bs (k + 1)) ≡ min (k + 1) (line_of bs (length bs))
line_of_next bs k =
    elim (cases_lt k (line_of bs (length bs))) [
      | inl h ↦ ap (line_of bs) (line_start_next bs k) ∙ sym (line_of_end bs k h) ∙ omega (arith, h)
      | inr h ↦ ap (line_of bs) (line_start_next bs k ∙ line_end_past bs k h) ∙ omega (arith, h)
    ]

-- the numbers of lines rise with the offsets
pub line_of_mono : (bs : List ℕ) (from to : ℕ) → from ≤ to → line_of bs from ≤ line_of bs to
line_of_mono bs from to h = omega (arith, terminators_in-line_of bs from to h)

-- the line of an offset, or of the nearer end where it lies outside of a part
pub line_of_within : (bs : List ℕ) (from to o : ℕ) → from ≤ to → line_of bs (max from (min o to))
    ≡ max (line_of bs from) (min (line_of bs o) (line_of bs to))
line_of_within bs from to o le =
    elim (cases_lt o from) [
      | inl h ↦ (let e : max from (min o to) ≡ from = omega (arith, h, le) in
          ap (line_of bs) e
          ∙ omega (arith, line_of_mono bs from to le, line_of_mono bs o from (omega (arith, h))))
      | inr h ↦ (elim (cases_lt o to) [
        | inl g ↦ (let e : max from (min o to) ≡ o = omega (arith, h, g) in
            ap (line_of bs) e ∙ omega (arith, line_of_mono bs from o h, line_of_mono bs o to (omega (arith, g))))
        | inr g ↦ (let e : max from (min o to) ≡ to = omega (arith, le, g) in
            ap (line_of bs) e ∙ omega (arith, line_of_mono bs from to le, line_of_mono bs to o g))
      ])
    ]

pub terminators_in-is : (bs : List ℕ) (from to : ℕ) → from ≤ to → terminators_in bs from to ≡ line_of bs to
    - line_of bs from
terminators_in-is bs from to h = omega (arith, terminators_in-line_of bs from to h)

pub line_of_cut : (bs : List ℕ) (o m : ℕ) → m ≡ min (length bs) o → line_of bs m ≡ line_of bs o
line_of_cut bs o m e =
    elim (cases_lt o (length bs)) [
      | inl h ↦ (let f : m ≡ o = omega (arith, e, h) in ap (line_of bs) f)
      | inr h ↦ (let f : m ≡ length bs = omega (arith, e, h) in ap (line_of bs) f ∙ sym (line_of_past bs o h))
    ]

pub ruleset scan_steps = (
  line_of_none,
  line_of_yes,
  line_of_no,
  line_of_past,
  line_end_at,
  line_end_past,
  line_start_here,
  line_start_none,
  line_of_le,
)

-- an index with one more end
pub push_end : (bs : List ℕ) (at : ℕ) (ends : List ℕ) → at < length bs
    → ends_line (slice_index bs at) (slice_index bs (at + 1)) ≡ true →
    length ends ≡ line_of bs at → ((k : ℕ) → k < length ends → slice_index ends k ≡ line_end bs k) →
    (k : ℕ) → k < length (ends ++ (at + 1) ∷ []) → slice_index (ends ++ (at + 1) ∷ []) k ≡ line_end bs k
push_end bs at ends h t e each k lt =
    elim (cases_lt k (length ends)) [
      | inl g ↦ get_or_append_left ends ((at + 1) ∷ []) 0 k g ∙ each k g
      | inr g ↦ (let f : k ≡ length ends = omega (arith, lt, g, length_push ends (at + 1)) in
          get_or_push ends (at + 1) 0 k (sym f) ∙ sym (line_end_at bs at k h t (f ∙ e)))
    ]

-- a reading of the index, and a line past it
pub index_end : (bs ends : List ℕ) (k : ℕ) → IsIndex bs ends → k < length ends → slice_index ends k ≡ line_end bs k
index_end bs ends k i h = i.each k h

pub index_line_end : (bs ends : List ℕ) (k : ℕ) → IsIndex bs ends → k < length ends → k + 1 ≡ line_of bs (line_end bs k)
index_line_end bs ends k i h = line_of_end bs k (omega (arith, i.all, h))

pub index_past : (bs ends : List ℕ) (k : ℕ) → IsIndex bs ends → length ends ≤ k → line_end bs k ≡ length bs
index_past bs ends k i h = line_end_past bs k (omega (arith, i.all, h))

pub index_line : (bs ends : List ℕ) (o : ℕ) → IsIndex bs ends → line_of bs o ≤ length ends
index_line bs ends o i = omega (arith, i.all, line_of_all bs o)

pub index_start_past : (bs ends : List ℕ) (k : ℕ) → IsIndex bs ends → length ends < k → line_start bs k ≡ length bs
index_start_past bs ends k i h =
    line_start_after bs k (k - 1) (omega (arith, h)) ∙ index_past bs ends (k - 1) i (omega (arith, h))

pub ruleset index_reads = (
  index_line_end,
  index_start_past,
  index_end,
  index_past,
  index_line,
  line_start_first,
  line_start_after,
)
