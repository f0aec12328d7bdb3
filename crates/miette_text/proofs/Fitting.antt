-- What the code asks of a text, character by character, of printable ASCII, and of bytes that are searched.
use Rattle.std.proofs.Common.{◌≡◌, ℕ, zero, suc, ◌+◌, ◌-◌, ◌<◌, ◌≤◌, Bool, true, false, not, ◌&&◌, ◌||◌, nat_le, nat_lt}
use Rattle.std.proofs.Common.{List, [], ◌∷◌, ◌++◌, IsAscii, IsUtf8, length, get_or, drop, refl, sym, ap, ap₂, ◌∙◌}
use Rattle.std.proofs.Common.{arith, append-nil, ltb-true, Option, Some, None}
use Rattle.std.specs.Prelude.{chars, encode_utf8, encode_utf8_all, slice_index}
use Rattle.std.specs.Option.{is_some}
use Rattle.std.proofs.lemmas.Bool.{and_parts, false_from_ne_true}
use Rattle.std.proofs.lemmas.Bool.Decides.{nat_tests}
use Rattle.std.proofs.lemmas.List.{drop_more, drop_all}
use Rattle.std.proofs.lemmas.List.Elements.{All-cons, All-nil}
use Rattle.std.proofs.lemmas.List.Sums.{sum_by-cons}
use Rattle.std.proofs.lemmas.Str.{encode_ascii, encodes-chars, inside_one}
use Rattle.std.proofs.lemmas.Str.Ascii.{IsAscii-from_all}
use Rattle.std.proofs.Math.Bool.{and-false, and-true, and_assoc}
use Rattle.std.specs.List.{All}
use Rattle.std.specs.Char.{is_whitespace}
use Rattle.memchr.specs.Find.{IsFirstByte, Nowhere, Passes, is_byte2}
use Rattle.unicode_width.specs.Width.{char_width}
use Rattle.miette_style.specs.rules.Escapes.{is_escape}
use Rattle.miette_runs.specs.rules.Sequences.{is_line_feed}
use Rattle.miette_text.specs.rules.Fitting.{ends_bare, has_ink, is_line}
use Rattle.miette_text.specs.rules.Wrapping.{is_space}
use Rattle.miette_runs.specs.rules.Cells.{width}
use Rattle.miette_runs.specs.steps.Cells.{code_columns}
use Rattle.miette_text.specs.steps.Fitting.{all_printable, fits_row}

-- ---- printable ASCII

pub printed-width : (c : ℕ) → 32 ≤ c → c ≤ 126 → width c ≡ 1
unfolding char_width
printed-width c h k = grind (arith, nat_tests)

printable-all : (cs : List ℕ) → all_printable cs ≡ true → All (λ (b : ℕ). b < 128) cs
printable-all [] h = All-nil (λ (b : ℕ). b < 128)
printable-all (c ∷ cs) h =
    let p = and_parts (nat_le 32 c && nat_le c 126) (all_printable cs) h in
    let q = and_parts (nat_le 32 c) (nat_le c 126) p.0 in
    let b : c < 128 = grind (arith, nat_tests) in
    All-cons (λ (b : ℕ). b < 128) c cs b (printable-all cs p.1)

pub printable-ascii : (cs : List ℕ) → all_printable cs ≡ true → IsAscii cs
printable-ascii cs h = IsAscii-from_all cs (printable-all cs h)

pub printable-columns : (cs : List ℕ) → all_printable cs ≡ true → code_columns cs ≡ length cs
printable-columns [] h = refl
printable-columns (c ∷ cs) h =
    let p = and_parts (nat_le 32 c && nat_le c 126) (all_printable cs) h in
    let q = and_parts (nat_le 32 c) (nat_le c 126) p.0 in
    let a : 32 ≤ c = grind (arith, nat_tests) in
    let b : c ≤ 126 = grind (arith, nat_tests) in
    sum_by-cons width c cs ∙ omega (arith, printed-width c a b, printable-columns cs p.1)

pub printable-line : (cs : List ℕ) → all_printable cs ≡ true → is_line cs ≡ true
printable-line [] h = refl
printable-line (c ∷ cs) h =
    let p = and_parts (nat_le 32 c && nat_le c 126) (all_printable cs) h in
    let rest = printable-line cs p.1 in
    grind (arith, nat_tests)

-- whether the last of printable ASCII is a space
ends-last : (bare : Bool) (cs : List ℕ) → 0 < length cs → ends_bare bare cs
    ≡ not (is_space (get_or cs (length cs - 1) 0))
ends-last bare [] h = absurd (omega arith)
ends-last bare (c ∷ []) h = refl
ends-last bare (c ∷ d ∷ cs) h =
    let n : length (c ∷ d ∷ cs) - 1 ≡ suc (length (d ∷ cs) - 1) = omega arith in
    ends-last (not (is_space c)) (d ∷ cs) (omega arith) ∙ ap (λ k. not (is_space (get_or (c ∷ d ∷ cs) k 0))) (sym n)

pub printable-fits : (room : ℕ) (cs : List ℕ) → all_printable cs ≡ true → 0 < length cs →
    fits_row room cs ≡ (not (is_space (get_or cs (length cs - 1) 0)) && nat_le (length cs) room)
printable-fits room cs h l =
    ap₂ (λ a b. a && (b && nat_le (code_columns cs) room)) (printable-line cs h) (ends-last true cs l)
    ∙ ap (λ n. not (is_space (get_or cs (length cs - 1) 0)) && nat_le n room) (printable-columns cs h)

-- ---- one character on

-- a character that no line has
abbrev pub is_apart : ℕ → Bool
is_apart c = is_escape c || is_line_feed c

-- what is left of a text fits the columns that are left
abbrev pub left_fits : ℕ → Bool → List ℕ → Bool
left_fits left bare rest = is_line rest && (ends_bare bare rest && nat_le (code_columns rest) left)

apart-fits : (left : ℕ) (bare : Bool) (c : ℕ) (cs : List ℕ) → is_apart c ≡ true → left_fits left bare (c ∷ cs) ≡ false
apart-fits left bare c cs h = ap (λ b. (not b && is_line cs)
    && (ends_bare bare (c ∷ cs) && nat_le (code_columns (c ∷ cs)) left)) h

wide-fits : (left : ℕ) (bare : Bool) (c : ℕ) (cs : List ℕ) → left < width c → left_fits left bare (c ∷ cs) ≡ false
wide-fits left bare c cs h =
    let s : code_columns (c ∷ cs) ≡ width c + code_columns cs = sum_by-cons width c cs in
    let n : nat_le (code_columns (c ∷ cs)) left ≡ false = grind (arith, nat_tests) in
    ap (λ b. is_line (c ∷ cs) && (ends_bare bare (c ∷ cs) && b)) n
    ∙ ap (λ b. is_line (c ∷ cs) && b) (and-false (ends_bare bare (c ∷ cs)))
    ∙ and-false (is_line (c ∷ cs))

next-fits : (left : ℕ) (bare : Bool) (c : ℕ) (cs : List ℕ) → is_apart c ≡ false → width c ≤ left
    → left_fits left bare (c ∷ cs) ≡ left_fits (left - width c) (not (is_space c)) cs
next-fits left bare c cs h k =
    let s : code_columns (c ∷ cs) ≡ width c + code_columns cs = sum_by-cons width c cs in
    let n : nat_le (code_columns (c ∷ cs)) left ≡ nat_le (code_columns cs) (left - width c) = grind (arith, nat_tests)
    in
    ap₂ (λ a b. (not a && is_line cs) && (ends_bare (not (is_space c)) cs && b)) h n

-- ---- and in a text, at an index

pub front : (cs : List ℕ) (n c : ℕ) → (n < length cs) × (c ≡ get_or cs n c) → drop n cs ≡ c ∷ drop (n + 1) cs
front cs n c h = drop_more cs n c h.0 ∙ ap (λ x. x ∷ drop (n + 1) cs) (sym h.1)

pub apart-fits_at : (left : ℕ) (bare : Bool) (cs : List ℕ) (n c : ℕ) → (n < length cs) × (c ≡ get_or cs n c)
    → is_apart c ≡ true → left_fits left bare (drop n cs) ≡ false
apart-fits_at left bare cs n c t h = ap (left_fits left bare) (front cs n c t)
    ∙ apart-fits left bare c (drop (n + 1) cs) h

pub wide-fits_at : (left : ℕ) (bare : Bool) (cs : List ℕ) (n c w : ℕ) → (n < length cs) × (c ≡ get_or cs n c) → w
    ≡ width c → left < w → left_fits left bare (drop n cs) ≡ false
wide-fits_at left bare cs n c w t e h = ap (left_fits left bare) (front cs n c t)
    ∙ wide-fits left bare c (drop (n + 1) cs) (omega arith)

pub next-fits_at : (left : ℕ) (bare : Bool) (cs : List ℕ) (n c w m : ℕ) → (n < length cs) × (c ≡ get_or cs n c) → w
    ≡ width c → is_apart c ≡ false → w ≤ left → m ≡ n + 1 →
    left_fits left bare (drop n cs) ≡ left_fits (left - w) (not (is_space c)) (drop m cs)
next-fits_at left bare cs n c w m t e h k f =
    ap (left_fits left bare) (front cs n c t)
    ∙ next-fits left bare c (drop (n + 1) cs) h (omega arith)
    ∙ ap₂ (λ v i. left_fits (left - v) (not (is_space c)) (drop i cs)) (sym e) (sym f)

pub ink_at : (cs : List ℕ) (n c : ℕ) → (n < length cs) × (c ≡ get_or cs n c) → is_whitespace c ≡ false
    → has_ink (drop n cs) ≡ true
ink_at cs n c t h = ap has_ink (front cs n c t) ∙ ap (λ b. not b || has_ink (drop (n + 1) cs)) h

pub white_at : (cs : List ℕ) (n c m : ℕ) → (n < length cs) × (c ≡ get_or cs n c) → is_whitespace c ≡ true → m ≡ n + 1
    → has_ink (drop n cs) ≡ has_ink (drop m cs)
white_at cs n c m t h e =
    ap has_ink (front cs n c t)
    ∙ ap (λ b. not b || has_ink (drop (n + 1) cs)) h
    ∙ ap (λ i. has_ink (drop i cs)) (sym e)

-- ---- at the end

pub end-fits : (left : ℕ) (bare : Bool) (cs : List ℕ) (n : ℕ) → length cs ≤ n → left_fits left bare (drop n cs) ≡ bare
end-fits left bare cs n h =
    let z : nat_le 0 left ≡ true = grind (arith, nat_tests) in
    ap (left_fits left bare) (drop_all n cs h) ∙ ap (λ b. bare && b) z ∙ and-true bare

pub end-white : (cs : List ℕ) (n : ℕ) → length cs ≤ n → has_ink (drop n cs) ≡ false
end-white cs n h = ap has_ink (drop_all n cs h)

-- ---- the bytes of a line

line-append : (xs ys : List ℕ) → is_line (xs ++ ys) ≡ (is_line xs && is_line ys)
line-append [] ys = refl
line-append (x ∷ xs) ys =
    ap (λ b. not (is_apart x) && b) (line-append xs ys) ∙ sym (and_assoc (not (is_apart x)) (is_line xs) (is_line ys))

not-apart : (b : ℕ) → 128 ≤ b → is_apart b ≡ false
not-apart b h = grind (arith, nat_tests)

line-high : (bs : List ℕ) → ((k : ℕ) → k < length bs → 128 ≤ get_or bs k 0) → is_line bs ≡ true
line-high [] h = refl
line-high (b ∷ bs) h =
    ap₂ (λ x y. not x && y) (not-apart b (h 0 (omega arith))) (line-high bs (λ k l. h (suc k) (omega (arith, l))))

-- a character past ASCII has no byte of ASCII
pub high-byte : (c k : ℕ) → 128 ≤ c → k < length (encode_utf8 c) → 128 ≤ get_or (encode_utf8 c) k 0
high-byte c k h l = elim (nat_lt (get_or (encode_utf8 c) k 0) 128) as
    (λ b. nat_lt (get_or (encode_utf8 c) k 0) 128 ≡ b → 128 ≤ get_or (encode_utf8 c) k 0) [
      | true ↦ λ e. absurd (omega (
        arith,
        inside_one c [] (encode_utf8 c) k (sym (append-nil (encode_utf8 c))) l
            (ltb-true _ _ e),
        ltb-true _ _ e,
      ))
      | false ↦ λ e. grind (arith, nat_tests)
    ] refl

line-character : (c : ℕ) → is_line (encode_utf8 c) ≡ not (is_apart c)
line-character c = elim (nat_lt c 128) as (λ b. nat_lt c 128 ≡ b → is_line (encode_utf8 c) ≡ not (is_apart c)) [
  | true ↦ λ e. ap is_line (encode_ascii c (ltb-true _ _ e)) ∙ and-true (not (is_apart c))
  | false ↦ λ e.
      let h : 128 ≤ c = grind (arith, nat_tests) in
      line-high (encode_utf8 c) (λ k l. high-byte c k h l) ∙ sym (ap not (not-apart c h))
] refl

line-characters : (cs : List ℕ) → is_line (encode_utf8_all cs) ≡ is_line cs
line-characters [] = refl
line-characters (c ∷ cs) =
    line-append (encode_utf8 c) (encode_utf8_all cs)
    ∙ ap₂ (λ x y. x && y) (line-character c) (line-characters cs)

pub line-text : (bs : List ℕ) → IsUtf8 bs → is_line bs ≡ is_line (chars bs)
line-text bs u = ap is_line (sym (encodes-chars bs u)) ∙ line-characters (chars bs)

-- a search for an escape or a line feed that finds none
abbrev break_words : ℕ → Bool
break_words = is_byte2 27 10

nowhere-line : (bs : List ℕ) → Nowhere (Passes break_words bs) 0 (length bs) → is_line bs ≡ true
nowhere-line [] h = refl
nowhere-line (b ∷ bs) h =
    ap₂ (λ x y. not x && y) (false_from_ne_true (is_apart b) (h 0 (omega arith) (omega arith)))
    (nowhere-line bs (λ k lo lt. h (suc k) (omega arith) (omega (arith, lt))))

found-line : (bs : List ℕ) (k : ℕ) → k < length bs → break_words (slice_index bs k) ≡ true → is_line bs ≡ false
found-line [] k l h = absurd (omega arith)
found-line (b ∷ bs) zero l h = ap (λ x. not x && is_line bs) h
found-line (b ∷ bs) (suc k) l h = ap (λ y. not (is_apart b) && y) (found-line bs k (omega (arith, l)) h)
    ∙ and-false (not (is_apart b))

pub searched-line : (bs : List ℕ) (r : Option ℕ) (none : Bool) → IsFirstByte break_words bs r → is_some r ≡ not none
    → none
    ≡ is_line bs
searched-line bs None true h e = sym (nowhere-line bs h)
searched-line bs (Some k) false h e = sym (found-line bs k h.0.high h.1)
searched-line bs None false h e = absurd (cc)
searched-line bs (Some k) true h e = absurd (cc)
