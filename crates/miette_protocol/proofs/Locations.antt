-- One character further in a text: its line, its column and its offset.
use Rattle.std.proofs.Common.{◌≡◌, ◌≢◌, ℕ, ◌+◌, ◌<◌, ◌≤◌, Bool, true, false, cond, not, ◌⊎◌, List, [], ◌∷◌, ◌++◌}
use Rattle.std.proofs.Common.{length, take, drop, get_or, map, sym, ap, subst, ◌∙◌, arith}
use Rattle.std.specs.Prelude.{◌==◌, encode_utf8_all, encode_utf8}
use Rattle.std.specs.List.{prefix_len, suffix_len}
use Rattle.std.specs.Str.{chars, IsUtf8}
use Rattle.std.proofs.Common.{reverse}
use mathlib.Core.Logic.{inl, inr}
use Rattle.std.proofs.lemmas.Bool.Decides.{nat_tests, eqb_tells}
use Rattle.std.proofs.lemmas.List.{map-id, append-nil, take_more, take-append-drop, length-append, reverse-append}
use Rattle.std.proofs.lemmas.List.{length-reverse, length_push}
use Rattle.std.proofs.lemmas.List.Sums.{sum_by-append, count_by-le-length, prefix_len-le-length}
use Rattle.std.proofs.lemmas.Str.{encodes-append, encodes-chars, length-le-encodes}
use Rattle.miette_lines.specs.rules.Lines.{LF}
use Rattle.miette_protocol.specs.rules.Location.{line_after, column_after, Reaches, IsFirstToReach, IsLocation}

cond_eq : (b d : Bool) (m n : ℕ) → b ≡ d → cond b m n ≡ cond d m n
cond_eq b d m n e = ap (λ (x : Bool). cond x m n) e

is_LF : (c : ℕ) → c ≡ 10 → (c == LF) ≡ true
is_LF c h = grind (arith, nat_tests)

not_LF : (c : ℕ) → c ≢ 10 → (c == LF) ≡ false
not_LF c h = grind (arith, nat_tests)

-- the line and the column after one more character
line_more : (xs : List ℕ) (c : ℕ) → line_after (xs ++ c ∷ []) ≡ line_after xs + cond (c == LF) 1 0
line_more xs c =
    let e = sum_by-append (λ c. cond (c == LF) 1 0) xs (c ∷ []) in
    omega (arith, e)

column_more : (xs : List ℕ) (c : ℕ) → column_after (xs ++ c ∷ [])
    ≡ cond (not (c == LF)) (1 + suffix_len (λ c. not (c == LF)) xs) 0 + 1
column_more xs c = ap (λ l. prefix_len (λ c. not (c == LF)) l + 1) (reverse-append xs (c ∷ []))

-- after a line feed, a line begins
pub line_break : (xs : List ℕ) (c : ℕ) → c ≡ 10 → line_after (xs ++ c ∷ []) ≡ line_after xs + 1
line_break xs c h = omega (arith, line_more xs c, cond_eq (c == LF) true 1 0 (is_LF c h))

pub column_break : (xs : List ℕ) (c : ℕ) → c ≡ 10 → column_after (xs ++ c ∷ []) ≡ 1
column_break xs c h =
    let e = cond_eq (not (c == LF)) false (1 + suffix_len (λ c. not (c == LF)) xs) 0 (ap not (is_LF c h)) in
    omega (arith, column_more xs c, e)

-- after any other character, the line goes on
pub line_on : (xs : List ℕ) (c : ℕ) → c ≢ 10 → line_after (xs ++ c ∷ []) ≡ line_after xs
line_on xs c h = omega (arith, line_more xs c, cond_eq (c == LF) false 1 0 (not_LF c h))

pub column_on : (xs : List ℕ) (c : ℕ) → c ≢ 10 → column_after (xs ++ c ∷ []) ≡ column_after xs + 1
column_on xs c h =
    let e = cond_eq (not (c == LF)) true (1 + suffix_len (λ c. not (c == LF)) xs) 0 (ap not (not_LF c h)) in
    omega (arith, column_more xs c, e)

-- the offset after one more character
pub encoded_more : (xs : List ℕ) (c : ℕ) → length (encode_utf8_all (xs ++ c ∷ [])) ≡ length (encode_utf8_all xs)
    + length (encode_utf8 c)
encoded_more xs c =
    ap length (encodes-append xs (c ∷ []))
    ∙ length-append (encode_utf8_all xs) (encode_utf8_all (c ∷ []))
    ∙ ap (λ l. length (encode_utf8_all xs) + length l) (append-nil (encode_utf8 c))

-- the characters so far are the first ones
pub so_far : (cs xs : List ℕ) → map (λ c. c) xs ≡ take (length xs) cs → xs ≡ take (length xs) cs
so_far cs xs e = sym (map-id xs) ∙ e

-- with one more
one_more : (cs xs : List ℕ) (c : ℕ) → xs ≡ take (length xs) cs → (length xs < length cs) × (c ≡ get_or cs (length xs) c)
    → xs ++ c ∷ [] ≡ take (length xs + 1) cs
one_more cs xs c so at =
    ap (λ l. l ++ c ∷ []) so
    ∙ ap (λ d. take (length xs) cs ++ d ∷ []) at.1
    ∙ sym (take_more cs (length xs) c at.0)

-- the first characters are no longer than the whole text
fits : (text : List ℕ) (n : ℕ) → IsUtf8 text → length (encode_utf8_all (take n (chars text))) ≤ length text
fits text n u =
    let front = encode_utf8_all (take n (chars text)) in
    let back = encode_utf8_all (drop n (chars text)) in
    let whole = encodes-append (take n (chars text)) (drop n (chars text)) in
    let e = sym (length-append front back) ∙ ap length (sym whole ∙ ap encode_utf8_all (take-append-drop n (chars text))
    ∙ encodes-chars text u) in
    omega (arith, e)

pub room : (text xs : List ℕ) (c : ℕ) → IsUtf8 text → xs ≡ take (length xs) (chars text)
    → (length xs < length (chars text)) × (c ≡ get_or (chars text) (length xs) c)
    → length (encode_utf8_all xs) + length (encode_utf8 c) ≤ length text
room text xs c u so at =
    let e = ap (λ l. length (encode_utf8_all l)) (one_more (chars text) xs c so at) in
    omega (arith, encoded_more xs c, e, fits text (length xs + 1) u)

-- lines and columns of a text are no more than its bytes
pub short : (text xs : List ℕ) → IsUtf8 text → length xs < length (chars text) → (column_after xs ≤ length text)
    × (line_after xs ≤ length text)
short text xs u h =
    let bytes = ap length (encodes-chars text u) in
    let each = length-le-encodes (chars text) in (
      omega (arith, h, bytes, each, prefix_len-le-length (λ c. not (c == LF)) (reverse xs), length-reverse xs),
      omega (arith, h, bytes, each, count_by-le-length (λ c. c == LF) xs),
    )

-- a line or a column that is too small
pub missed : (xs : List ℕ) (line column line_at column_at : ℕ) → line_at ≡ line_after xs → column_at ≡ column_after xs
    → ((line ≤ line_at) × (column_at < column)) ⊎ (line_at < line) → ¬ Reaches xs line column
missed xs line column line_at column_at l c (inl m) r = omega (arith, c, m.1, r.1)
missed xs line column line_at column_at l c (inr m) r = omega (arith, l, m, r.0)

-- none reaches, the last one included
pub none_more : (cs xs : List ℕ) (line column : ℕ) (c : ℕ) → xs ≡ take (length xs) cs
    → ((k : ℕ) → k < length xs → ¬ Reaches (take k cs) line column)
    → ¬ Reaches xs line column
    → (k : ℕ) → k < length (xs ++ c ∷ []) → ¬ Reaches (take k cs) line column
none_more cs xs line column c so none not_here k h =
    elim (eqb_tells k (length xs)) [
      | inl p ↦ λ r. not_here (subst (λ l. Reaches l line column) (ap (λ n. take n cs) p.1 ∙ sym so) r)
      | inr p ↦ none k (omega (arith, p.1, h, length_push xs c))
    ]

-- the first that reaches is found
pub found : (text xs : List ℕ) (line column offset : ℕ) → xs ≡ take (length xs) (chars text) → length xs
    ≤ length (chars text)
    → ((k : ℕ) → k < length xs → ¬ Reaches (take k (chars text)) line column)
    → (length xs < length (chars text) → Reaches xs line column)
    → offset ≡ length (encode_utf8_all xs)
    → IsLocation text line column offset
found text xs line column offset so within none here at = (
  length xs,
  record {
    within = within;
    reached = λ h. subst (λ l. Reaches l line column) so (here h);
    first = none;
  },
  at ∙ ap (λ l. length (encode_utf8_all l)) so,
)

not_before : (cs : List ℕ) (line column i j : ℕ) → IsFirstToReach cs line column i → IsFirstToReach cs line column j
    → ¬ (i < j)
not_before cs line column i j p q h = q.first i h (p.reached (omega (arith, h, q.within)))

-- the index of the first character that reaches a line and a column is one
pub one_index : (cs : List ℕ) (line column i j : ℕ) → IsFirstToReach cs line column i → IsFirstToReach cs line column j
    → i ≡ j
one_index cs line column i j p q =
    let below = not_before cs line column i j p q in
    let above = not_before cs line column j i q p in
    grind (arith, below, above)

pub one_location : (text : List ℕ) (line column a b : ℕ) → IsLocation text line column a → IsLocation text line column b
    → a ≡ b
one_location text line column a b p q =
    p.2 ∙ ap (λ n. length (encode_utf8_all (take n (chars text)))) (one_index (chars text) line column p.0 q.0 p.1 q.1)
    ∙ sym q.2
