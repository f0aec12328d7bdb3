-- The column of an offset, by where its line begins.
use Rattle.std.proofs.Common.{◌≡◌, ℕ, suc, zero, ◌+◌, ◌-◌, ◌<◌, ◌≤◌, Bool, true, false, not, ◌&&◌, ◌||◌, ◌==◌, List}
use Rattle.std.proofs.Common.{length, take, drop, slice_index, count_by, refl, sym, ap, ◌∙◌, arith, add-one}
use Rattle.std.proofs.lemmas.List.{get_or-drop, length-drop}
use Rattle.std.proofs.lemmas.List.Sums.{count_by_more_yes, count_by_more_no}
use Rattle.std.proofs.lemmas.Bool.{cases_lt, false_from_ne_true}
use Rattle.std.proofs.Common.{inl, inr}
use Rattle.miette_lines.specs.rules.Lines.{LF, CR, ends_line, is_text, line_of, line_start, column_of}
use Rattle.miette_lines.proofs.Places.{line_of_yes, line_end_here, line_start_next, line_start_mono}
use Rattle.miette_lines.proofs.Places.{line_of_mono}

text_before_text : (x y z w : Bool) → (x || (y && not z)) ≡ false → (z || w) ≡ false → (not x && not y) ≡ true
text_before_text true y z w e f = absurd (cc)
text_before_text false true true w e f = absurd (cc)
text_before_text false true false w e f = absurd (cc)
text_before_text false false z w e f = refl

text_but_cr : (x y z : Bool) → (x || (y && not z)) ≡ false → y ≡ false → (not x && not y) ≡ true
text_but_cr true y z e f = absurd (cc)
text_but_cr false true z e f = absurd (cc)
text_but_cr false false z e f = refl

cr_is_no_text : (x y : Bool) → y ≡ true → (not x && not y) ≡ false
cr_is_no_text true y e = refl
cr_is_no_text false true e = refl
cr_is_no_text false false e = cc

-- no terminator ends between the start of an offset's line and the offset
no_end_inside : (bs : List ℕ) (o i : ℕ) → line_start bs (line_of bs o) ≤ i → i < o → o ≤ length bs →
    ends_line (slice_index bs i) (slice_index bs (i + 1)) ≡ false
no_end_inside bs o i s h w =
    false_from_ne_true (ends_line (slice_index bs i) (slice_index bs (i + 1))) (λ t.
    let m : line_of bs (i + 1) ≤ line_of bs o = line_of_mono bs (i + 1) o (omega (arith, h)) in
    let a : line_of bs i + 1 ≤ line_of bs o = omega (arith, m, line_of_yes bs i t) in
    omega (
      arith,
      s,
      line_start_mono bs (line_of bs i + 1) (line_of bs o) a,
      line_start_next bs (line_of bs i),
      line_end_here bs i (omega (arith, h, w)) t,
    ))

text_inside : (bs : List ℕ) (o i : ℕ) → line_start bs (line_of bs o) ≤ i → i + 1 < o → o ≤ length bs
    → is_text (slice_index bs i) ≡ true
unfolding ends_line
text_inside bs o i s h w =
    text_before_text (slice_index bs i == LF) (slice_index bs i == CR) (slice_index bs (i + 1) == LF)
    ((slice_index bs (i + 1) == CR) && not (slice_index bs (i + 1 + 1) == LF))
    (no_end_inside bs o i s (omega (arith, h)) w) (no_end_inside bs o (i + 1) (omega (arith, s)) h w)

text_last : (bs : List ℕ) (o i : ℕ) → line_start bs (line_of bs o) ≤ i → i < o → o ≤ length bs
    → (slice_index bs i == CR) ≡ false → is_text (slice_index bs i) ≡ true
unfolding ends_line
text_last bs o i s h w f =
    text_but_cr (slice_index bs i == LF) (slice_index bs i == CR) (slice_index bs (i + 1) == LF)
    (no_end_inside bs o i s h w) f

-- n bytes of text
texts : (bs : List ℕ) (s n : ℕ) → s + n ≤ length bs → ((k : ℕ) → s ≤ k → k < s + n → is_text (slice_index bs k) ≡ true)
    →
    count_by is_text (take n (drop s bs)) ≡ n
texts bs s zero w h = refl
texts bs s (suc n) w h =
    let l : length (drop s bs) ≡ length bs - s = length-drop s bs in
    let t : is_text (slice_index (drop s bs) n) ≡ true = ap is_text (get_or-drop s bs n 0)
    ∙ h (s + n) (omega arith) (omega arith) in
    let a : count_by is_text (take (n + 1) (drop s bs)) ≡ count_by is_text (take n (drop s bs)) + 1 =
    count_by_more_yes is_text (drop s bs) n 0 (omega (arith, w, l)) t in
    let b : count_by is_text (take (suc n) (drop s bs)) ≡ suc (count_by is_text (take n (drop s bs))) =
    simp add-one at a in
    omega (arith, b, texts bs s n (omega (arith, w)) (λ k g f. h k g (omega (arith, f))))

column_at : (bs : List ℕ) (s o n : ℕ) → s ≡ line_start bs (line_of bs o) → n ≡ o - s → column_of bs o
    ≡ count_by is_text (take n (drop s bs))
unfolding column_of
column_at bs s o n e f =
    ap (λ t. count_by is_text (take (o - t) (drop t bs))) (sym e)
    ∙ ap (λ m. count_by is_text (take m (drop s bs))) (sym f)

pub column_first : (bs : List ℕ) (s o : ℕ) → s ≡ line_start bs (line_of bs o) → o ≤ s → o ≤ length bs → o - s
    ≡ column_of bs o
column_first bs s o e h w = omega (arith, h, column_at bs s o 0 e (omega (arith, h)))

pub column_text : (bs : List ℕ) (s o : ℕ) → s ≡ line_start bs (line_of bs o) → s < o → o ≤ length bs
    → (slice_index bs (o - 1) == CR) ≡ false → o - s ≡ column_of bs o
column_text bs s o e h w f =
    sym (column_at bs s o (o - s) e refl ∙ texts bs s (o - s) (omega (arith, h, w)) (λ k g l.
    elim (cases_lt (k + 1) o) [
      | inl m ↦ text_inside bs o k (omega (arith, e, g)) m w
      | inr m ↦
          (let i : k ≡ o - 1 = omega (arith, m, l, h) in
          text_last bs o k (omega (arith, e, g)) (omega (arith, l, h)) w (ap (λ j. slice_index bs j == CR) i ∙ f))
    ]))

pub column_cr : (bs : List ℕ) (s o : ℕ) → s ≡ line_start bs (line_of bs o) → s < o → o ≤ length bs
    → (slice_index bs (o - 1) == CR) ≡ true → o - s - 1 ≡ column_of bs o
column_cr bs s o e h w f =
    let n : ℕ = o - s - 1 in
    let l : length (drop s bs) ≡ length bs - s = length-drop s bs in
    let i : s + (o - s - 1) ≡ o - 1 = omega (arith, h) in
    let t : is_text (slice_index (drop s bs) (o - s - 1)) ≡ false =
    ap is_text (get_or-drop s bs (o - s - 1) 0 ∙ ap (slice_index bs) i)
    ∙ cr_is_no_text (slice_index bs (o - 1) == LF) (slice_index bs (o - 1) == CR) f in
    let a : count_by is_text (take (o - s - 1 + 1) (drop s bs)) ≡ count_by is_text (take (o - s - 1) (drop s bs)) =
    count_by_more_no is_text (drop s bs) (o - s - 1) 0 (omega (arith, w, l, h)) t in
    sym (column_at bs s o (o - s - 1 + 1) e (omega (arith, h)) ∙ a ∙ texts bs s (o - s - 1) (omega (arith, h, w))
    (λ k g m. text_inside bs o k (omega (arith, e, g)) (omega (arith, m, h)) w))

pub ruleset columns = (column_first, column_text, column_cr)
