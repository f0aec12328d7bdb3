-- Steps over the characters of a text, and the column that they come to.
use Rattle.std.proofs.Common.{ℕ, ◌+◌, ◌-◌, ◌<◌, ◌≤◌, ◌≡◌, true, false, List, [], ◌∷◌, ◌++◌, refl, sym, ap, subst, ◌∙◌}
use Rattle.std.proofs.Common.{append_assoc, append-nil, arith, eqb, length, take, drop, length-drop}
use Rattle.std.proofs.lemmas.List.{take_rest}
use Rattle.bstr.specs.Utf8.{decoded, or_replacement}
use Rattle.std.specs.Prelude.{IsUtf8, chars, encode_utf8, encode_utf8_all}
use Rattle.std.proofs.lemmas.Str.{chars_from_encodes, encodes-append, encodes-chars, chars-nil}
use Rattle.std.proofs.lemmas.Bool.{ne_eqb, le-ltb, lt-ltb}
use Rattle.unicode_width.specs.Width.{str_width}
use Rattle.miette_columns.specs.rules.Cells.{Character, characters}
use Rattle.miette_columns.specs.rules.Widths.{width_of}
use Rattle.miette_columns.proofs.Stepping.{IsFirst, made, characters_step, characters_end}
use Rattle.miette_columns.specs.rules.Columns.{text_up_to, is_boundary, widths, column}
use Rattle.miette_columns.specs.declared.checkpoints.Checkpoint.{Checkpoint}
use Rattle.miette_columns.specs.steps.Checkpoints.{overlap_text, twice, column_past}

-- a character of a text: how many bytes stand before it, and how many it takes
pub record IsNext (text : List ℕ) (bytes code size : ℕ) : Type 0 where
  pub first : IsFirst (drop bytes text) (drop size (drop bytes text)) code size
  pub some : 0 < size
  pub within : bytes + size ≤ length text

pub begins : (bytes left : List ℕ) (code size : ℕ) → 0 < length bytes → left ≡ drop size bytes
    → code ≡ or_replacement (decoded bytes).char → size ≡ (decoded bytes).size → IsFirst bytes left code size
begins bytes left code size some l c s = record { some = some; left_is = l; code_is = c; size_is = s }

-- what is known of a character that was read after `bytes` bytes of a text
abbrev pub IsRead : List ℕ → ℕ → ℕ → ℕ → Type 0
IsRead text bytes c s = record {
  code : c ≡ or_replacement (decoded (take (length text - bytes) (drop bytes text))).char;
  size : s ≡ (decoded (take (length text - bytes) (drop bytes text))).size;
  some : 0 < s;
  within : s ≤ length (take (length text - bytes) (drop bytes text));
}

pub is_next : (text : List ℕ) (bytes code size : ℕ) → bytes < length text → IsRead text bytes code size
    → IsNext text bytes code size
is_next text bytes code size h read =
    let slice = take (length text - bytes) (drop bytes text) in
    let all : length slice ≡ length text - bytes = ap length (take_rest text bytes) ∙ length-drop bytes text in
    record {
      first = subst (λ b. IsFirst b (drop size b) code size) (take_rest text bytes)
          (begins slice (drop size slice) code size (omega (arith, all, h)) refl read.code read.size);
      some = read.some;
      within = omega (arith, read.within, all, h);
    }

-- some characters are over, and `left` bytes of the rest are left; the characters and the sum of widths began with some
pub record IsOver (front : List ℕ) (first : ℕ) (text : List ℕ) (bytes : ℕ) (over : List ℕ) (sum : ℕ) (rest : List ℕ)
    (left : ℕ) : Type 0 where
  pub all : chars over ++ text_up_to left (characters rest) ≡ front ++ text_up_to bytes (characters text)
  pub boundary : is_boundary left (characters rest) ≡ is_boundary bytes (characters text)
  pub width : sum + widths (text_up_to left (characters rest)) ≡ first + widths (text_up_to bytes (characters text))

pub none_over : (front : List ℕ) (first : ℕ) (text : List ℕ) (bytes : ℕ) (over : List ℕ) → chars over ≡ front
    → IsOver front first text bytes over first text bytes
none_over front first text bytes over e = record {
  all = ap (λ o. o ++ text_up_to bytes (characters text)) e;
  boundary =
      refl;
  width = refl;
}

pub chars_pushed : (old new : List ℕ) (code : ℕ) → IsUtf8 old → IsUtf8 new → new ≡ old ++ encode_utf8 code → chars new
    ≡ chars old ++ code ∷ []
chars_pushed old new code u v e =
    sym (chars_from_encodes (chars old ++ code ∷ []) new v
    (encodes-append (chars old) (code ∷ []) ∙ ap (λ o. o ++ encode_utf8_all (code ∷ [])) (encodes-chars old u)
    ∙ ap (λ o. old ++ o) (append-nil (encode_utf8 code)) ∙ sym e))

-- a text of no character, of one or of two
pub none_held_text : (text : List ℕ) → text ≡ [] → chars text ≡ []
none_held_text text e = ap chars e ∙ chars-nil

pub one_held_text : (old new : List ℕ) (code : ℕ) → IsUtf8 old → IsUtf8 new → old ≡ [] → new ≡ old ++ encode_utf8 code
    → chars new ≡ code ∷ []
one_held_text old new code u v e p = chars_pushed old new code u v p ∙ ap (λ o. o ++ code ∷ []) (none_held_text old e)

pub two_held_text : (old new newer : List ℕ) (code second : ℕ) → IsUtf8 old → IsUtf8 new → IsUtf8 newer → old ≡ [] → new
    ≡ old ++ encode_utf8 code → newer ≡ new ++ encode_utf8 second → chars newer ≡ code ∷ second ∷ []
two_held_text old new newer code second u v w e p q = chars_pushed new newer second v w q
    ∙ ap (λ o. o ++ second ∷ []) (one_held_text old new code u v e p)

nonzero : (left : ℕ) → 0 < left → eqb left 0 ≡ false
nonzero left h = ne_eqb left 0 (λ e. omega arith)

pub begun_more : (left code size : ℕ) (cs : List Character) → 0 < left → text_up_to left (made code size ∷ cs) ≡ code
    ∷ text_up_to (left - size) cs
begun_more left code size cs h = rw (nonzero left h) refl

pub begun_zero : (cs : List Character) → text_up_to 0 cs ≡ []
begun_zero [] = refl
begun_zero (c ∷ cs) = refl

pub boundary_more : (left code size : ℕ) (cs : List Character) → 0 < left → size ≤ left
    → is_boundary left (made code size ∷ cs) ≡ is_boundary (left - size) cs
boundary_more left code size cs h k = rw (nonzero left h, le-ltb left size k) refl

pub boundary_inside : (left code size : ℕ) (cs : List Character) → 0 < left → left < size
    → is_boundary left (made code size ∷ cs) ≡ false
boundary_inside left code size cs h k = rw (nonzero left h, lt-ltb left size k) refl

pub boundary_zero : (cs : List Character) → is_boundary 0 cs ≡ true
boundary_zero [] = refl
boundary_zero (c ∷ cs) = refl

pub one_over : (front : List ℕ) (first : ℕ) (text : List ℕ) (bytes : ℕ) (over new : List ℕ) (sum wider : ℕ)
    (rest after : List ℕ) (left code size : ℕ) → IsOver front first text bytes over sum rest left
    → IsFirst rest after code size →
    IsUtf8 over → IsUtf8 new → new ≡ over ++ encode_utf8 code → wider ≡ sum + width_of code → 0 < left → size ≤ left
    → IsOver front first text bytes new wider after (left - size)
one_over front first text bytes over new sum wider rest after left code size h is u v e w some fits =
    let cs = characters after in
    let step = characters_step rest after code size is in
    let more : text_up_to left (characters rest) ≡ code ∷ text_up_to (left - size) cs = ap (text_up_to left) step
    ∙ begun_more left code size cs some in
    let sums : widths (text_up_to left (characters rest)) ≡ width_of code + widths (text_up_to (left - size) cs) =
    ap widths more in
    record {
      all = ap (λ o. o ++ text_up_to (left - size) cs) (chars_pushed over new code u v e)
          ∙ append_assoc (chars over) (code ∷ []) (text_up_to (left - size) cs) ∙ ap (λ o. chars over ++ o) (sym more)
          ∙ h.all;
      boundary = sym (boundary_more left code size cs some fits) ∙ ap (is_boundary left) (sym step) ∙ h.boundary;
      width = omega (arith, w, sums, h.width);
    }

pub at_boundary : (text : List ℕ) (bytes : ℕ) → is_boundary bytes (characters text) ≡ true
    → column bytes (characters text) ≡ str_width false (text_up_to bytes (characters text))
at_boundary text bytes e = rw e refl

pub off_boundary : (text : List ℕ) (bytes : ℕ) → is_boundary bytes (characters text) ≡ false
    → column bytes (characters text) ≡ widths (text_up_to bytes (characters text))
off_boundary text bytes e = rw e refl

pub after_boundary : (place : Checkpoint) (text : List ℕ) (bytes : ℕ) → is_boundary bytes (characters text) ≡ true →
    column_past place bytes (characters text) ≡ place.column
    + str_width false (overlap_text place.overlap ++ text_up_to bytes (characters text))
after_boundary place text bytes e = rw e refl

pub after_other : (place : Checkpoint) (text : List ℕ) (bytes : ℕ) → is_boundary bytes (characters text) ≡ false →
    column_past place bytes (characters text) ≡ place.widths + widths (text_up_to bytes (characters text))
after_other place text bytes e = rw e refl

pub twice_boundary : (place : Checkpoint) (text : List ℕ) (bytes : ℕ) → is_boundary bytes (characters text) ≡ true
    → twice place bytes (characters text) ≡ place.twice
twice_boundary place text bytes e = rw e refl

pub twice_other : (place : Checkpoint) (text : List ℕ) (bytes : ℕ) → is_boundary bytes (characters text) ≡ false
    → twice place bytes (characters text) ≡ 0
twice_other place text bytes e = rw e refl

-- the column, where nothing is counted twice
abbrev pub told_column : Checkpoint → ℕ → List Character → ℕ
told_column place bytes cs = column_past place bytes cs - twice place bytes cs

told_other : (place : Checkpoint) (text : List ℕ) (bytes result : ℕ) → is_boundary bytes (characters text) ≡ false
    → result ≡ place.widths + widths (text_up_to bytes (characters text)) → result
    ≡ told_column place bytes (characters text)
told_other place text bytes result e r =
    let none = twice_other place text bytes e in
    let past = after_other place text bytes e in
    omega (arith, r, none, past)

pub boundary_at_zero : (front : List ℕ) (first : ℕ) (text : List ℕ) (bytes : ℕ) (over : List ℕ) (sum : ℕ)
    (rest : List ℕ) (left : ℕ) → IsOver front first text bytes over sum rest left → left ≡ 0
    → is_boundary bytes (characters text) ≡ true
boundary_at_zero front first text bytes over sum rest left h zero = sym h.boundary
    ∙ ap (λ k. is_boundary k (characters rest)) zero ∙ boundary_zero (characters rest)

pub all_at_zero : (front : List ℕ) (first : ℕ) (text : List ℕ) (bytes : ℕ) (over : List ℕ) (sum : ℕ) (rest : List ℕ)
    (left : ℕ) → IsOver front first text bytes over sum rest left → left ≡ 0 → chars over ≡ front
    ++ text_up_to bytes (characters text)
all_at_zero front first text bytes over sum rest left h zero =
    let none : text_up_to left (characters rest) ≡ [] = ap (λ k. text_up_to k (characters rest)) zero
    ∙ begun_zero (characters rest) in
    sym (append-nil (chars over)) ∙ ap (λ o. chars over ++ o) (sym none) ∙ h.all

pub over_at_zero : (place : Checkpoint) (text : List ℕ) (bytes : ℕ) (over : List ℕ) (sum : ℕ) (rest : List ℕ)
    (left result : ℕ) → IsOver (overlap_text place.overlap) place.widths text bytes over sum rest left → left ≡ 0 →
    result ≡ (place.column + str_width false (chars over)) - place.twice → result
    ≡ told_column place bytes (characters text)
over_at_zero place text bytes over sum rest left result h zero r =
    let here = boundary_at_zero (overlap_text place.overlap) place.widths text bytes over sum rest left h zero in
    let wide = ap (str_width false) (all_at_zero (overlap_text place.overlap) place.widths text bytes over sum rest left
    h zero) in
    let more = twice_boundary place text bytes here in
    let past = after_boundary place text bytes here in
    omega (arith, r, wide, more, past)

pub over_past_end : (place : Checkpoint) (text : List ℕ) (bytes : ℕ) (over : List ℕ) (sum : ℕ) (rest : List ℕ)
    (left : ℕ) → IsOver (overlap_text place.overlap) place.widths text bytes over sum rest left → 0 < left → rest ≡ [] →
    sum ≡ told_column place bytes (characters text)
over_past_end place text bytes over sum rest left h some e =
    let end = characters_end rest e in
    let none : widths (text_up_to left (characters rest)) ≡ 0 = ap (λ cs. widths (text_up_to left cs)) end in
    let here : is_boundary bytes (characters text) ≡ false = sym h.boundary ∙ ap (is_boundary left) end
    ∙ nonzero left some in
    let sums : sum ≡ place.widths + widths (text_up_to bytes (characters text)) = omega (arith, none, h.width) in
    told_other place text bytes _ here sums

pub over_inside : (place : Checkpoint) (text : List ℕ) (bytes : ℕ) (over : List ℕ) (sum wider : ℕ)
    (rest after : List ℕ) (left code size : ℕ) → IsOver (overlap_text place.overlap) place.widths text bytes over sum
    rest left → IsFirst rest after code size →
    wider ≡ sum + width_of code → 0 < left → left < size → wider ≡ told_column place bytes (characters text)
over_inside place text bytes over sum wider rest after left code size h is w some inside =
    let cs = characters after in
    let step = characters_step rest after code size is in
    let zero : left - size ≡ 0 = omega arith in
    let more : text_up_to left (characters rest) ≡ code ∷ [] = ap (text_up_to left) step
    ∙ begun_more left code size cs some ∙ ap (λ k. code ∷ text_up_to k cs) zero ∙ ap (λ o. code ∷ o) (begun_zero cs)
    in
    let here : is_boundary bytes (characters text) ≡ false = sym h.boundary ∙ ap (is_boundary left) step
    ∙ boundary_inside left code size cs some inside in
    let one : widths (text_up_to left (characters rest)) ≡ width_of code + 0 = ap widths more in
    let sums : wider ≡ place.widths + widths (text_up_to bytes (characters text)) = omega (arith, w, one, h.width) in
    told_other place text bytes _ here sums
