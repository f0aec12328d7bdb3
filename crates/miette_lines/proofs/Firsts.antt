-- The first line of bytes, by the place of the first LF or CR.
use Rattle.std.proofs.Common.{◌≡◌, ◌≢◌, ℕ, suc, zero, ◌+◌, ◌-◌, ◌<◌, ◌≤◌, ◌⊎◌, Bool, true, false, not, ◌&&◌, ◌||◌, List}
use Rattle.std.proofs.Common.{[], ◌∷◌, ◌++◌, length, take, drop, get_or, Option, Some, None, refl, sym, ap, ◌∙◌, inl}
use Rattle.std.proofs.Common.{inr, subst, arith}
use Rattle.std.specs.Prelude.{◌==◌, slice_index, All}
use Rattle.std.proofs.lemmas.Bool.{cases_eq}
use Rattle.std.proofs.lemmas.Bool.Decides.{nat_tests}
use Rattle.std.proofs.lemmas.Grind.{get_or_default_zero}
use Rattle.std.proofs.lemmas.List.{take-append-drop, drop-drop, length-take-le, length-drop, get_or-take, get_or-drop}
use Rattle.std.proofs.lemmas.List.{drop_all}
use Rattle.memchr.specs.Find.{Nowhere, NoneBefore, Passes, IsFirstByte, is_byte2}
use Rattle.miette_lines.specs.rules.Lines.{LF, CR, lines_from, is_text}
use Rattle.miette_lines.specs.rules.Cutting.{IsTerminator}
use Rattle.miette_lines.specs.declared.lines.LineOfText.{LineOfText}
use Rattle.miette_lines.specs.views.Walking.{IsFirst, line_of_text}
use Rattle.miette_lines.proofs.Only.{made, LineFirst, first_line}

-- the text of the first line has `text` bytes, and the line `whole`
abbrev pub IsParted : List ℕ → ℕ → ℕ → Type 0
IsParted bytes text whole = (at : ℕ) → lines_from at bytes ≡ made at (at + text) (at + whole)
    ∷ lines_from (at + whole) (drop whole bytes)

text_byte : (x y : Bool) → ((x || y) ≡ true → ⊥) → (not x && not y) ≡ true
text_byte true y h = absurd (h refl)
text_byte false true h = absurd (h refl)
text_byte false false h = refl

-- bytes before the first LF or CR are text
plain : (bytes : List ℕ) (n : ℕ) → n ≤ length bytes → Nowhere (Passes (is_byte2 LF CR) bytes) 0 n
    → All (λ b. is_text b ≡ true) (take n bytes)
plain bytes n le h =
    λ k d lt.
    let l : length (take n bytes) ≡ n = length-take-le n bytes le in
    let e : get_or (take n bytes) k d ≡ get_or bytes k 0 =
    get_or-take n bytes k d (omega (arith, lt, l)) ∙ get_or_default_zero bytes k d (omega (arith, lt, l, le)) in
    let t : is_text (get_or bytes k 0) ≡ true = text_byte (get_or bytes k 0 == LF) (get_or bytes k 0 == CR)
    (h k (omega arith) (omega (arith, lt, l))) in
    ap is_text e ∙ t

-- a first line whose text and terminator stand at the front of the bytes
by_parts : (bytes : List ℕ) (t n : ℕ) → t + n ≤ length bytes → 0 < t + n → All (λ b. is_text b ≡ true) (take t bytes) →
    IsTerminator (take n (drop t bytes)) (drop n (drop t bytes)) → IsParted bytes t (t + n)
by_parts bytes t n le some p e at =
    let text : List ℕ = take t bytes in
    let end : List ℕ = take n (drop t bytes) in
    let rest : List ℕ = drop n (drop t bytes) in
    let a : length text ≡ t = length-take-le t bytes (omega (arith, le)) in
    let b : length end ≡ n = length-take-le n (drop t bytes) (omega (arith, le, length-drop t bytes)) in
    let whole : bytes ≡ text ++ (end ++ rest) = sym (ap (λ r. text ++ r) (take-append-drop n (drop t bytes))
    ∙ take-append-drop t bytes) in
    let f : LineFirst at text end rest = first_line at text end rest p e (omega (arith, a, b, some)) in
    ap (lines_from at) whole ∙ f
    ∙ ap (λ m. made at (at + m) (at + (m + length end)) ∷ lines_from (at + (m + length end)) rest) a
    ∙ ap (λ m. made at (at + t) (at + (t + m)) ∷ lines_from (at + (t + m)) rest) b
    ∙ ap (λ r. made at (at + t) (at + (t + n)) ∷ lines_from (at + (t + n)) r) (drop-drop n t bytes)

-- all bytes, where none is LF or CR
pub parted_none : (bytes : List ℕ) (r : Option ℕ) → 0 < length bytes → IsFirstByte (is_byte2 LF CR) bytes r → r ≡ None
    → IsParted bytes (length bytes) (length bytes)
parted_none bytes None some h e =
    let z : length bytes + 0 ≡ length bytes = omega arith in
    let P : ℕ → Type 0 = λ n. IsParted bytes (length bytes) n in
    let left : drop 0 (drop (length bytes) bytes) ≡ [] = drop_all (length bytes) bytes (omega arith) in
    subst P z (by_parts bytes (length bytes) 0 (omega arith) (omega (arith, some))
    (plain bytes (length bytes) (omega arith) h) (inr (inr (inr (refl, left)))))
parted_none bytes (Some t) some h e = absurd (cc)

cut_one : (t : ℕ) (bytes : List ℕ) → t < length bytes → take 1 (drop t bytes) ≡ slice_index bytes t ∷ []
cut_one t [] lt = absurd (omega (arith, lt))
cut_one zero (b ∷ bs) lt = refl
cut_one (suc t) (b ∷ bs) lt = cut_one t bs (omega (arith, lt))

cut_two : (t : ℕ) (bytes : List ℕ) → t + 1 < length bytes → take 2 (drop t bytes) ≡ slice_index bytes t
    ∷ slice_index bytes (t + 1) ∷ []
cut_two t [] lt = absurd (omega (arith, lt))
cut_two zero (b ∷ []) lt = absurd (omega (arith, lt))
cut_two zero (b ∷ c ∷ cs) lt = refl
cut_two (suc t) (b ∷ bs) lt = let e : suc t + 1 ≡ suc (t + 1) = omega arith in rw e (cut_two t bs (omega (arith, lt)))

-- an LF stands within the bytes
lf_inside : (k : ℕ) (bytes : List ℕ) → slice_index bytes k ≡ 10 → k < length bytes
lf_inside zero [] e = absurd (omega (arith, e))
lf_inside (suc k) [] e = absurd (omega (arith, e))
lf_inside zero (b ∷ bs) e = omega arith
lf_inside (suc k) (b ∷ bs) e = let h : k < length bs = lf_inside k bs e in omega (arith, h)

-- LF, or a CR that no LF follows
alone : (b next : ℕ) → is_byte2 LF CR b ≡ true → (not (b == 10) && (next == 10)) ≡ false → (b ≡ 10)
    ⊎ ((b ≡ 13) × (next ≢ 10))
alone b next p e =
    elim (cases_eq b 10) [
      | inl f ↦ inl f
      | inr f ↦ (elim (cases_eq b 13) [
        | inl g ↦ inr (g, λ h. grind (arith, nat_tests, e, f, g, h))
        | inr g ↦ absurd (grind (arith, nat_tests, p, f, g))
      ])
    ]

-- a CR that an LF follows
paired : (b next : ℕ) → is_byte2 LF CR b ≡ true → (not (b == 10) && (next == 10)) ≡ true → (b ≡ 13) × (next ≡ 10)
paired b next p e =
    elim (cases_eq b 10) [
      | inl f ↦ absurd (grind (arith, nat_tests, e, f))
      | inr f ↦ (elim (cases_eq b 13) [
        | inl g ↦ (elim (cases_eq next 10) [ inl h ↦ (g, h) | inr h ↦ absurd (grind (arith, nat_tests, e, h)) ])
        | inr g ↦ absurd (grind (arith, nat_tests, p, f, g))
      ])
    ]

one_ends : (bytes : List ℕ) (t : ℕ) → t < length bytes → (slice_index bytes t ≡ 10)
    ⊎ ((slice_index bytes t ≡ 13) × (slice_index bytes (t + 1) ≢ 10)) →
    IsTerminator (take 1 (drop t bytes)) (drop 1 (drop t bytes))
one_ends bytes t lt (inl e) = inl (cut_one t bytes lt ∙ ap (λ b. b ∷ []) e)
one_ends bytes t lt (inr e) =
    inr (inr (inl (
      cut_one t bytes lt ∙ ap (λ b. b ∷ []) e.0,
      λ f. e.1 (sym (get_or-drop t bytes 1 0) ∙ sym (get_or-drop 1 (drop t bytes) 0 0) ∙ f),
    )))

-- where the first LF or CR stands
found_at : (bytes : List ℕ) (r : Option ℕ) (t : ℕ) → IsFirstByte (is_byte2 LF CR) bytes r → r ≡ Some t →
    NoneBefore (Passes (is_byte2 LF CR) bytes) 0 (length bytes) t × Passes (is_byte2 LF CR) bytes t
found_at bytes r t h e = subst (IsFirstByte (is_byte2 LF CR) bytes) e h

-- up to the LF or CR, which is the terminator
pub parted_one : (bytes : List ℕ) (r : Option ℕ) (t : ℕ) → IsFirstByte (is_byte2 LF CR) bytes r → r ≡ Some t
    → (not (slice_index bytes t == 10) && (slice_index bytes (t + 1) == 10)) ≡ false →
    IsParted bytes t (t + 1)
parted_one bytes r t h e n =
    let found = found_at bytes r t h e in
    by_parts bytes t 1 (omega (arith, found.0.high)) (omega arith)
    (plain bytes t (omega (arith, found.0.high)) found.0.before)
    (one_ends bytes t found.0.high (alone (slice_index bytes t) (slice_index bytes (t + 1)) found.1 n))

-- up to a CR, which is the terminator with the LF after it
pub parted_two : (bytes : List ℕ) (r : Option ℕ) (t : ℕ) → IsFirstByte (is_byte2 LF CR) bytes r → r ≡ Some t
    → (not (slice_index bytes t == 10) && (slice_index bytes (t + 1) == 10)) ≡ true →
    IsParted bytes t (t + 2)
parted_two bytes r t h e y =
    let found = found_at bytes r t h e in
    let two : (slice_index bytes t ≡ 13) × (slice_index bytes (t + 1) ≡ 10) =
    paired (slice_index bytes t) (slice_index bytes (t + 1)) found.1 y in
    let inside : t + 1 < length bytes = lf_inside (t + 1) bytes two.1 in
    by_parts bytes t 2 (omega (arith, inside)) (omega arith) (plain bytes t (omega (arith, inside)) found.0.before)
    (inr (inl (cut_two t bytes inside ∙ ap (λ b. b ∷ slice_index bytes (t + 1) ∷ []) two.0
    ∙ ap (λ b. 13 ∷ b ∷ []) two.1)))

-- the first line, by the length of its text and its own
pub first_is : (start : ℕ) (bytes : List ℕ) (text whole : ℕ) → text ≤ whole → 0 < whole → whole ≤ length bytes
    → IsParted bytes text whole →
    IsFirst (record { start = start; bytes = bytes }) (record
    { start = start; text_end = start + text; end = start + whole })
first_is start bytes text whole within some fits part =
    let sums : whole ≡ start + whole - start = omega arith in
    record {
      lines = part start ∙ ap (λ n. made start (start + text) (start + whole)
          ∷ lines_from (start + whole) (drop n bytes)) sums;
      from = refl;
      text = omega arith;
      ending = omega (arith, within);
      some = omega (arith, some);
      to = omega (arith, fits);
    }

-- the line that begins `at` bytes on
pub line_parted : (start at : ℕ) (bytes rest : List ℕ) (line : LineOfText) → rest ≡ drop at bytes
    → IsFirst (record { start = start + at; bytes = rest }) line →
    lines_from (start + at) (drop at bytes) ≡ line_of_text line
    ∷ lines_from line.end (drop (line.end - start) bytes)
line_parted start at bytes rest line left h =
    let sums : at + (line.end - (start + at)) ≡ line.end - start = omega (arith, h.from, h.some) in
    ap (lines_from (start + at)) (sym left) ∙ h.lines
    ∙ ap (λ xs. line_of_text line ∷ lines_from line.end xs)
    (ap (drop (line.end - (start + at))) left ∙ drop-drop (line.end - (start + at)) at bytes
    ∙ ap (λ n. drop n bytes) sums)
