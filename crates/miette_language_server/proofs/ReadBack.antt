-- What is written in a frame is read back.
use Rattle.std.proofs.Common.{◌≡◌, ℕ, ◌+◌, ◌-◌, ◌*◌, ◌/◌, ◌%◌, ◌^◌, ◌<◌, ◌≤◌, List, [], ◌∷◌, ◌++◌, Bool, true}
use Rattle.std.proofs.Common.{false}
use Rattle.std.proofs.Common.{◌&&◌, eqb, leb, ltb, Option, Some, None, refl, sym, ap, ◌∙◌, arith, append_assoc}
use Rattle.std.proofs.Common.{append-nil}
use Rattle.std.proofs.Common.{length, length-append, reverse, take}
use Rattle.std.specs.Prelude.{codes, decimal, not, position, take_while}
use Rattle.std.specs.Option.{option_and_then, option_or}
use Rattle.std.proofs.lemmas.Bool.{and_parts, ne_eqb, not-true}
use Rattle.std.proofs.lemmas.List.{reverse-append}
use lib.Seq.{take-append_seam}
use Rattle.std.proofs.lemmas.Bool.Decides.{nat_tests}
use Rattle.std.proofs.lemmas.Fmt.{decimal_by_steps}
use Rattle.miette_language_server.specs.rules.Frames.{first_frame, framed, header_text, is_blank}
use Rattle.miette_language_server.specs.rules.Frames.{ends_header, length_from, number, number_from, content_length_in}
use Rattle.miette_language_server.specs.rules.Frames.{without_blanks}
use Rattle.miette_language_server.specs.rules.Frames.{with_digit, without_leading, without_trailing}
use Rattle.miette_language_server.proofs.Bodies.{cut_at, cut_whole}
use Rattle.miette_language_server.proofs.Headers.{after_all, after_row, within_row}

-- ---- digits

ended : (o : Option ℕ) → option_and_then (λ n. number_from n []) o ≡ o
ended None = refl
ended (Some n) = refl

joined : (b : ℕ) (ds : List ℕ) → ((m : ℕ) → number_from m (ds ++ b ∷ [])
    ≡ option_and_then (λ n. with_digit n b) (number_from m ds)) → (o : Option ℕ)
    → option_and_then (λ n. number_from n (ds ++ b ∷ [])) o
    ≡ option_and_then (λ n. with_digit n b) (option_and_then (λ n. number_from n ds) o)
joined b ds h None = refl
joined b ds h (Some n) = h n

number_joined : (m b : ℕ) (ds : List ℕ)
    → number_from m (ds ++ b ∷ []) ≡ option_and_then (λ n. with_digit n b) (number_from m ds)
number_joined m b [] = ended (with_digit m b)
number_joined m b (d ∷ ds) = joined b ds (λ n. number_joined n b ds) (with_digit m d)

with_digit_is : (m d : ℕ) → d < 10 → m * 10 + d < 2 ^ 64 → with_digit m (48 + d) ≡ Some (m * 10 + d)
with_digit_is m d small fits =
    let low : leb 48 (48 + d) ≡ true = grind (arith, nat_tests) in
    let high : leb (48 + d) 57 ≡ true = grind (arith, nat_tests) in
    let same : 48 + d - 48 ≡ d = omega arith in
    let within : ltb (m * 10 + (48 + d - 48)) (2 ^ 64) ≡ true = rw same (grind (arith, nat_tests)) in
    rw (low, high, within) (ap (λ k. Some (m * 10 + k)) same)

abbrev AreDigits : List ℕ → Type 0
AreDigits [] = Unit {0}
AreDigits (d ∷ ds) = (48 ≤ d) × AreDigits ds

digits_joined : (ds : List ℕ) (b : ℕ) → AreDigits ds → 48 ≤ b → AreDigits (ds ++ b ∷ [])
digits_joined [] b h low = (low, tt)
digits_joined (d ∷ ds) b h low = (h.0, digits_joined ds b h.1 low)

-- digits that write a number, the last of them apart
record Writes (n : ℕ) (ds : List ℕ) : Type 0 where
  is : number_from 0 ds ≡ Some n
  digits : AreDigits ds
  front : List ℕ
  last : ℕ
  parts : ds ≡ front ++ last ∷ []
  low : 48 ≤ last

one_written : (n : ℕ) → n < 10 → n < 2 ^ 64 → Writes n ((48 + n) ∷ [])
one_written n small fits = record {
  is = ap (λ o. option_and_then (λ m. number_from m []) o) (with_digit_is 0 n small (omega (arith, fits)))
      ∙ ap Some (omega arith);
  digits = (omega arith, tt);
  front = [];
  last = 48 + n;
  parts = refl;
  low = omega arith;
}

more_written : (n : ℕ) (ds : List ℕ) → n < 2 ^ 64 → Writes (n / 10) ds → Writes n (ds ++ ((48 + n % 10) ∷ []))
more_written n ds fits h = record {
  is = number_joined 0 (48 + n % 10) ds ∙ ap (λ o. option_and_then (λ k. with_digit k (48 + n % 10)) o) h.is
      ∙ with_digit_is (n / 10) (n % 10) (omega arith) (omega (arith, fits)) ∙ ap Some (omega arith);
  digits = digits_joined ds (48 + n % 10) h.digits (omega arith);
  front = ds;
  last = 48 + n % 10;
  parts = refl;
  low = omega arith;
}

decimal_written : (n : ℕ) → n < 2 ^ 64 → Writes n (decimal n)
decimal_written n fits =
    decimal_by_steps (λ n ds. n < 2 ^ 64 → Writes n ds) one_written
    (λ n ds ten h within. more_written n ds within (h (omega (arith, within)))) n fits fits

-- ---- a row without an LF

abbrev is_free : List ℕ → Bool
is_free [] = true
is_free (x ∷ xs) = not (eqb x 10) && is_free xs

free_joined : (xs ys : List ℕ) → is_free xs ≡ true → is_free ys ≡ true → is_free (xs ++ ys) ≡ true
free_joined [] ys h k = k
free_joined (x ∷ xs) ys h k =
    let parts : (not (eqb x 10) ≡ true) × (is_free xs ≡ true) = and_parts (not (eqb x 10)) (is_free xs) h in
    rw parts.0 (free_joined xs ys parts.1 k)

digits_free : (ds : List ℕ) → AreDigits ds → is_free ds ≡ true
digits_free [] h = refl
digits_free (d ∷ ds) h =
    let apart : eqb d 10 ≡ false = ne_eqb d 10 (λ e. omega (arith, h.0, e)) in rw apart (digits_free ds h.1)

row_within : (known : Option ℕ) (row xs ys : List ℕ) → is_free xs ≡ true
    → length_from known row (xs ++ ys) ≡ length_from known (row ++ xs) ys
row_within known row [] ys h = ap (λ r. length_from known r ys) (sym (append-nil row))
row_within known row (x ∷ xs) ys h =
    let parts : (not (eqb x 10) ≡ true) × (is_free xs ≡ true) = and_parts (not (eqb x 10)) (is_free xs) h in
    within_row known row x (xs ++ ys) (not-true (eqb x 10) parts.0) ∙ row_within known (row ++ x ∷ []) xs ys parts.1
    ∙ ap (λ r. length_from known r ys) (append_assoc row (x ∷ []) xs)

-- ---- blanks at the ends

no_blank : (d : ℕ) → 48 ≤ d → is_blank d ≡ false
no_blank d low =
    let space : eqb d 32 ≡ false = ne_eqb d 32 (λ e. omega (arith, low, e)) in
    let tab : eqb d 9 ≡ false = ne_eqb d 9 (λ e. omega (arith, low, e)) in
    let cr : eqb d 13 ≡ false = ne_eqb d 13 (λ e. omega (arith, low, e)) in
    rw (space, tab, cr) refl

one_blank : (d : ℕ) (xs : List ℕ) → is_blank d ≡ false → length (take_while is_blank (13 ∷ d ∷ xs)) ≡ 1
one_blank d xs h = rw h refl

end_trimmed : (xs : List ℕ) (d : ℕ) → 48 ≤ d → without_trailing ((xs ++ d ∷ []) ++ 13 ∷ []) ≡ xs ++ d ∷ []
end_trimmed xs d low =
    let all = (xs ++ d ∷ []) ++ 13 ∷ [] in
    let turned : reverse all ≡ 13 ∷ d ∷ reverse xs =
    reverse-append (xs ++ d ∷ []) (13 ∷ []) ∙ ap (λ l. 13 ∷ l) (reverse-append xs (d ∷ []))
    in
    let one : length (take_while is_blank (reverse all)) ≡ 1 =
    ap (λ l. length (take_while is_blank l)) turned ∙ one_blank d (reverse xs) (no_blank d low)
    in
    let left : length all - 1 ≡ length (xs ++ d ∷ []) = omega (arith, length-append (xs ++ d ∷ []) (13 ∷ [])) in
    ap (λ k. take (length all - k) all) one ∙ ap (λ k. take k all) left
    ∙ take-append_seam (xs ++ d ∷ []) (13 ∷ [])

begin_trimmed : (d : ℕ) (xs : List ℕ) → 48 ≤ d → without_leading (32 ∷ d ∷ xs) ≡ d ∷ xs
begin_trimmed d xs low = let none : is_blank d ≡ false = no_blank d low in rw none refl

-- ---- the header

colon_at : (xs : List ℕ) → position (λ b. eqb b 58) (codes "Content-Length: " ++ xs) ≡ Some 14
colon_at xs =
    let within : ltb 14 (length (codes "Content-Length: " ++ xs)) ≡ true =
    grind (arith, nat_tests, length-append (codes "Content-Length: ") xs)
    in
    rw within refl

value_read : (n : ℕ) (ds : List ℕ) → Writes n ds → number (without_blanks (32 ∷ (ds ++ 13 ∷ []))) ≡ Some n
value_read n [] h = let bad : None ≡ Some n = none_written n h in cc
  where
    none_written : (n : ℕ) → Writes n [] → None ≡ Some n
    none_written n h = absurd (omega (arith, ap length h.parts, length-append h.front (h.last ∷ [])))
value_read n (d ∷ ds) h =
    let all : without_leading (32 ∷ ((d ∷ ds) ++ 13 ∷ [])) ≡ (d ∷ ds) ++ 13 ∷ [] =
    begin_trimmed d (ds ++ 13 ∷ []) h.digits.0
    in
    let same : without_blanks (32 ∷ ((d ∷ ds) ++ 13 ∷ [])) ≡ d ∷ ds =
    ap without_trailing all ∙ ap (λ l. without_trailing (l ++ 13 ∷ [])) h.parts ∙ end_trimmed h.front h.last h.low
    ∙ sym h.parts
    in
    ap number same ∙ h.is

length_told : (n : ℕ) (ds : List ℕ) → Writes n ds → content_length_in (codes "Content-Length: " ++ (ds ++ 13 ∷ []))
    ≡ Some n
length_told n ds h = rw (colon_at (ds ++ 13 ∷ [])) (value_read n ds h)

not_empty : (n : ℕ) (ds : List ℕ) → Writes n ds → ends_header (codes "Content-Length: " ++ (ds ++ 13 ∷ [])) ≡ false
not_empty n ds h =
    let row = codes "Content-Length: " ++ (ds ++ 13 ∷ []) in
    let front = codes "Content-Length: " ++ h.front in
    let parts : row ≡ (front ++ h.last ∷ []) ++ 13 ∷ [] =
    ap (λ l. codes "Content-Length: " ++ (l ++ 13 ∷ [])) h.parts
    in
    let same : without_blanks row ≡ front ++ h.last ∷ [] = ap without_trailing parts ∙ end_trimmed front h.last h.low in
    ap (λ l. eqb (length l) 0) same
    ∙ ne_eqb (length (front ++ h.last ∷ [])) 0 (λ e. omega (arith, e, length-append front (h.last ∷ [])))

header_read : (n : ℕ) (rest : List ℕ) → n < 2 ^ 64 → length_from None [] (header_text n ++ rest) ≡ Some (n, rest)
header_read n rest fits =
    let h = decimal_written n fits in
    let ds = decimal n in
    let row = codes "Content-Length: " ++ ds in
    let end = row ++ 13 ∷ [] in
    let free : is_free row ≡ true = free_joined (codes "Content-Length: ") ds refl (digits_free ds h.digits) in
    ap (length_from None []) (append_assoc row (codes "\r\n\r\n") rest)
    ∙ row_within None [] row (13 ∷ 10 ∷ 13 ∷ 10 ∷ rest) free
    ∙ within_row None row 13 (10 ∷ 13 ∷ 10 ∷ rest) refl
    ∙ after_row None end 10 (13 ∷ 10 ∷ rest) refl (not_empty n ds h)
    ∙ ap (λ o. length_from (option_or o None) [] (13 ∷ 10 ∷ rest)) (length_told n ds h)
    ∙ within_row (Some n) [] 13 (10 ∷ rest) refl
    ∙ after_all (Some n) (13 ∷ []) 10 rest refl refl

pub read_back : (body rest : List ℕ) → length body < 2 ^ 64
    → first_frame (framed body ++ rest) ≡ Some (record { body = body; rest = rest })
read_back body rest fits =
    ap (λ l. option_and_then cut_at (length_from None [] l)) (append_assoc (header_text (length body)) body rest)
    ∙ ap (option_and_then cut_at) (header_read (length body) (body ++ rest) fits) ∙ cut_whole body rest
