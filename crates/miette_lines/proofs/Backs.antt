-- What a search back for the last LF or CR says of lines.
use Rattle.std.proofs.Common.{◌≡◌, ℕ, suc, zero, ◌+◌, ◌-◌, ◌<◌, ◌≤◌, Bool, true, false, not, ◌&&◌, ◌||◌, ◌==◌, List}
use Rattle.std.proofs.Common.{length, take, drop, slice_index, Option, Some, None, IsNone, IfSome, refl, sym, ap, subst}
use Rattle.std.proofs.Common.{◌∙◌, arith}
use Rattle.std.proofs.lemmas.List.{get_or-take, length-take-le, get_or-drop, length-drop, take_rest}
use Rattle.memchr.specs.Find.{Nowhere, NoneBefore, Passes, IsLastByte, is_byte2}
use Rattle.miette_lines.specs.rules.Lines.{LF, CR, ends_line, line_of}
use Rattle.miette_lines.proofs.Places.{line_of_none, line_of_no}

no_newline : (x y z : Bool) → ((x || y) ≡ true → ⊥) → (x || (y && not z)) ≡ false
no_newline true y z h = absurd (h refl)
no_newline false true z h = absurd (h refl)
no_newline false false z h = refl

-- a byte that is no LF or CR ends no line
no_newline-ends : (b next : ℕ) → (is_byte2 LF CR b ≡ true → ⊥) → ends_line b next ≡ false
unfolding ends_line
no_newline-ends b next h = no_newline (b == LF) (b == CR) (next == LF) h

-- over bytes without LF or CR the line stays
flat : (bs : List ℕ) (from n : ℕ) → ((k : ℕ) → from ≤ k → k < from + n → is_byte2 LF CR (slice_index bs k) ≡ true → ⊥) →
    line_of bs (from + n) ≡ line_of bs from
flat bs from zero h = let e : from + 0 ≡ from = omega arith in ap (line_of bs) e
flat bs from (suc n) h =
    let a : line_of bs (from + n + 1) ≡ line_of bs (from + n) =
    line_of_no bs (from + n) (no_newline-ends (slice_index bs (from + n)) (slice_index bs (from + n + 1))
    (h (from + n) (omega arith) (omega arith))) in
    let e : from + suc n ≡ from + n + 1 = omega arith in
    ap (line_of bs) e ∙ a ∙ flat bs from n (λ k g f. h k g (omega (arith, f)))

-- the same from an offset on that is a sum
pub flat_to : (bs : List ℕ) (from to : ℕ) → from ≤ to → Nowhere (Passes (is_byte2 LF CR) (take to bs)) from to →
    line_of bs from ≡ line_of bs to
flat_to bs from to o h =
    let e : to ≡ from + (to - from) = omega (arith, o) in
    sym (ap (line_of bs) e ∙ flat bs from (to - from) (λ k g f t. h k g (omega (arith, f, o))
    (ap (is_byte2 LF CR) (get_or-take to bs k 0 (omega (arith, f, o))) ∙ t)))

pub flat_none : (bs : List ℕ) (to : ℕ) → Nowhere (Passes (is_byte2 LF CR) (take to bs)) 0 to → line_of bs to ≡ 0
flat_none bs to h = sym (flat_to bs 0 to (omega arith) h) ∙ line_of_none bs

-- where a search back finds nothing, no terminator ends before the offset
pub newline_none : (bs : List ℕ) (o : ℕ) (r : Option ℕ) → o ≤ length bs → IsLastByte (is_byte2 LF CR) (take o bs) r
    → IsNone r → line_of bs o ≡ 0
newline_none bs o None w h t =
    let l : length (take o bs) ≡ o = length-take-le o bs w in
    flat_none bs o (λ k g f p. h k g (omega (arith, f, l)) p)
newline_none bs o (Some at) w h t = absurd (cc)

-- where it finds a byte, none ends after that byte and before the offset
pub newline_same : (bs : List ℕ) (o : ℕ) (r : Option ℕ) → o ≤ length bs → IsLastByte (is_byte2 LF CR) (take o bs) r
    → IfSome r (λ at. line_of bs (at + 1) ≡ line_of bs o)
newline_same bs o None w h = tt
newline_same bs o (Some at) w h =
    let l : length (take o bs) ≡ o = length-take-le o bs w in
    flat_to bs (at + 1) o (omega (arith, h.0.high, l)) (λ k g f p. h.0.after k g (omega (arith, f, l)) p)

-- the same for a search forward

flat_after : (bs : List ℕ) (from n : ℕ) → Nowhere (Passes (is_byte2 LF CR) (drop from bs)) 0 n → line_of bs (from + n)
    ≡ line_of bs from
flat_after bs from n h =
    flat bs from n (λ k g f t.
    let e : from + (k - from) ≡ k = omega (arith, g) in
    h (k - from) (omega arith) (omega (arith, f, g)) (ap (is_byte2 LF CR)
    (get_or-drop from bs (k - from) 0 ∙ ap (slice_index bs) e) ∙ t))

-- where a search forward finds nothing, no terminator ends after the offset
pub newline_none_after : (bs : List ℕ) (o : ℕ) → o ≤ length bs →
    (let hay = take (length bs - o) (drop o bs) in Nowhere (Passes (is_byte2 LF CR) hay) 0 (length hay)) → line_of bs o
    ≡ line_of bs (length bs)
newline_none_after bs o w h =
    let P : List ℕ → Type 0 = λ hay. Nowhere (Passes (is_byte2 LF CR) hay) 0 (length hay) in
    let e : o + length (drop o bs) ≡ length bs = omega (arith, length-drop o bs, w) in
    sym (flat_after bs o (length (drop o bs)) (subst P (take_rest bs o) h)) ∙ ap (line_of bs) e

-- where it finds a byte, none ends before that byte
pub newline_same_after : (bs : List ℕ) (o n : ℕ) →
    (let hay = take (length bs - o) (drop o bs) in NoneBefore (Passes (is_byte2 LF CR) hay) 0 (length hay) n)
    → line_of bs (o + n) ≡ line_of bs o
newline_same_after bs o n h =
    let P : List ℕ → Type 0 = λ hay. NoneBefore (Passes (is_byte2 LF CR) hay) 0 (length hay) n in
    let found : NoneBefore (Passes (is_byte2 LF CR) (drop o bs)) 0 (length (drop o bs)) n = subst P (take_rest bs o) h
    in
    flat_after bs o n found.before
