-- One byte of a text after another, where a loop goes over them.
use Rattle.std.proofs.Common.{◌≡◌, ℕ, zero, suc, ◌+◌, ◌<◌, ◌≤◌, Bool, true, false, List, [], ◌∷◌, length, get_or}
use Rattle.std.proofs.Common.{take, drop, sym, ap, subst, ◌∙◌, arith, add-one, refl}
use Rattle.std.proofs.Common.{◌^◌, Option, Some, None, Result, Ok, Err}
use Rattle.std.specs.Prelude.{◌==◌, ◌&&◌, nat_lt, not, if◌then◌else◌, option_and_then, position, slice_get}
use Rattle.std.specs.Int.{IsInRange}
use Rattle.std.specs.List.{position_or_len}
use Rattle.std.specs.Result.{result_unwrap_or}
use Rattle.std.specs.Str.{IsCharBoundary, IsUtf8}
use Rattle.std.specs.Str.Parse.{AllDigits, ParsesUnsigned, digits_value}
use Rattle.std.proofs.Math.Seq.{drop-cons}
use Rattle.std.proofs.lemmas.Bool.{eqb-true, ltb-false}
use Rattle.std.proofs.lemmas.Bool.Decides.{nat_tests}
use Rattle.std.proofs.lemmas.List.{get_or-take, length-drop}
use Rattle.std.proofs.lemmas.List.Folds.{length-prefix_len}
use Rattle.std.proofs.lemmas.List.Sums.{prefix_len-le-length, prefix_len_passes}
use Rattle.std.proofs.lemmas.Str.{IsCharBoundary-after_ascii}
use Rattle.std.proofs.lemmas.Str.Parse.{IsNumeralModel, numerals_by_value, parse_digits, tells_by_index}
use Rattle.serde_json.specs.Data.{Data}
use Rattle.serde_json.specs.Find.{as_str}
use Rattle.miette_read_sarif.specs.rules.Bases.{has_scheme}
use Rattle.miette_read_sarif.specs.rules.Messages.{argument, argument_at, bracket_at, destination_count, digit_count}
use Rattle.miette_read_sarif.specs.rules.Messages.{ends_destination, has_destination, is_brace, is_bracket}
use Rattle.miette_read_sarif.specs.rules.Messages.{is_escapable, is_no_digit}

pub at_byte : (xs : List ℕ) (i : ℕ) → i < length xs → drop i xs ≡ get_or xs i 0 ∷ drop (i + 1) xs
at_byte xs i h = drop-cons xs i 0 h ∙ ap (λ k. get_or xs i 0 ∷ drop k xs) (sym (add-one i))

pub scheme_step : (xs : List ℕ) (i : ℕ) → i < length xs → let x = get_or xs i 0 in
    has_scheme (drop i xs)
    ≡ (if x == 58 then true else if x == 47 then false else has_scheme (drop (i + 1) xs))
scheme_step xs i h = ap has_scheme (at_byte xs i h)

pub bracket_step : (escaped : Bool) (xs : List ℕ) (i : ℕ) → i < length xs → let x = get_or xs i 0 in
    bracket_at escaped (drop i xs)
    ≡ (if is_bracket x && not escaped then 0 else suc (bracket_at ((x == 92) && not escaped) (drop (i + 1) xs)))
bracket_step escaped xs i h = ap (bracket_at escaped) (at_byte xs i h)

-- ---- where a text may be cut

one_more : (b : Bool) (n m : ℕ) → n ≤ m → (if b then 0 else suc n) ≤ suc m
one_more true n m h = omega arith
one_more false n m h = omega arith

pub bracket_within : (escaped : Bool) (xs : List ℕ) → bracket_at escaped xs ≤ length xs
bracket_within escaped [] = omega arith
bracket_within escaped (x ∷ xs) =
    one_more (is_bracket x && not escaped) _ (length xs) (bracket_within ((x == 92) && not escaped) xs)

pub low_within : (xs : List ℕ) (i : ℕ) → 0 < get_or xs i 0 → i < length xs
low_within [] zero h = absurd (omega (arith, h))
low_within [] (suc i) h = absurd (omega (arith, h))
low_within (x ∷ xs) zero h = omega arith
low_within (x ∷ xs) (suc i) h = omega (arith, low_within xs i h)

-- a text may be cut after an ASCII byte
pub after_low : (xs : List ℕ) (i : ℕ) → IsUtf8 xs → 0 < get_or xs i 0 → get_or xs i 0 < 128 → IsCharBoundary xs (i + 1)
after_low xs i u some low = IsCharBoundary-after_ascii xs i u (low_within xs i some) low

pub after_mark : (xs : List ℕ) (i v : ℕ) → IsUtf8 xs → get_or xs i 0 ≡ v → 0 < v → v < 128 → IsCharBoundary xs (i + 1)
after_mark xs i v u e some low = after_low xs i u (omega (arith, e, some)) (omega (arith, e, low))

pub after_two : (xs : List ℕ) (i v : ℕ) → IsUtf8 xs → get_or xs (i + 1) 0 ≡ v → 0 < v → v < 128
    → IsCharBoundary xs (i + 2)
after_two xs i v u e some low =
    let same : (i + 1) + 1 ≡ i + 2 = omega arith in
    subst (λ (n : ℕ). IsCharBoundary xs n) same (after_mark xs (i + 1) v u e some low)

pub brace_low : (x : ℕ) → is_brace x ≡ true → (0 < x) × (x < 128)
brace_low x e = (grind (arith, nat_tests), grind (arith, nat_tests))

pub escapable_low : (x : ℕ) → is_escapable x ≡ true → (0 < x) × (x < 128)
escapable_low x e = (grind (arith, nat_tests), grind (arith, nat_tests))

-- ---- the first byte that passes a test

found_one : (b : Bool) (n at : ℕ) → Some at ≡ (if b then Some n else None) → at ≡ n
found_one true n at e = cc
found_one false n at e = absurd (cc)

found_none : (b : Bool) (n m : ℕ) → nat_lt n m ≡ b → n ≤ m → None ≡ (if b then Some n else None) → m ≡ n
found_none true n m test h e = absurd (cc)
found_none false n m test h e = omega (arith, h, ltb-false n m test)

pub position_there : (p : ℕ → Bool) (xs : List ℕ) (at : ℕ) → Some at ≡ position p xs → at ≡ position_or_len p xs
position_there p xs at e = found_one (nat_lt (position_or_len p xs) (length xs)) (position_or_len p xs) at e

pub position_nowhere : (p : ℕ → Bool) (xs : List ℕ) → None ≡ position p xs → length xs ≡ position_or_len p xs
position_nowhere p xs e =
    found_none (nat_lt (position_or_len p xs) (length xs)) (position_or_len p xs) (length xs) refl
    (prefix_len-le-length (λ x. not (p x)) xs) e

-- ---- what ends a piece

if_some : {A : Type 0} (b : Bool) (o : Option A) (x : A) → Some x ≡ (if b then o else None) → b ≡ true
if_some true o x e = refl
if_some false o x e = absurd (cc)

second : (a b : Bool) → (a && b) ≡ true → b ≡ true
second true b e = e
second false b e = absurd (cc)

-- a number that has its argument stands in front of `}`
pub number_closed : (arguments : List Data) (text argument : List ℕ) → Some argument ≡ argument_at arguments text
    → get_or text (digit_count text) 0 ≡ 125
number_closed arguments text argument e =
    eqb-true (get_or text (digit_count text) 0) 125
    (second (nat_lt 0 (digit_count text)) (get_or text (digit_count text) 0 == 125) (if_some _ _ argument e))

pub destination_closed : (text : List ℕ) → has_destination text ≡ true
    → get_or text (destination_count text + 1) 0 ≡ 41
destination_closed text e =
    let n = destination_count text in
    eqb-true (get_or text (n + 1) 0) 41
    (second (nat_lt 0 n) (get_or text (n + 1) 0 == 41)
    (second (get_or text 0 0 == 40) (nat_lt 0 n && (get_or text (n + 1) 0 == 41)) e))

pub destination_within : (text : List ℕ) → destination_count text ≤ length text
destination_within text =
    omega (arith, prefix_len-le-length (λ x. not (ends_destination x)) (drop 1 text), length-drop 1 text)

-- ---- numbers

digit_in : (x : ℕ) → not (is_no_digit x) ≡ true → IsInRange 48 57 x
digit_in x e = (grind (arith, nat_tests), grind (arith, nat_tests))

abbrev AreDigits : List ℕ → Type 0
AreDigits ds = (i : ℕ) → i < length ds → IsInRange 48 57 (get_or ds i 0)

own : IsNumeralModel AreDigits (digits_value 10)
own = numerals_by_value AreDigits tells_by_index

pub digits_all : (text : List ℕ) → AllDigits 10 (take (digit_count text) text)
digits_all text = own.to (take (digit_count text) text) (λ i h. (
    let len : length (take (digit_count text) text) ≡ digit_count text =
    length-prefix_len (λ x. not (is_no_digit x)) text in
    let before : i < digit_count text = omega (arith, h, len) in
    let same : get_or (take (digit_count text) text) i 0 ≡ get_or text i 0 =
    get_or-take (digit_count text) text i 0 before in
    rw same (digit_in (get_or text i 0) (prefix_len_passes (λ x. not (is_no_digit x)) text i 0 before))))

none_there : (xs : List Data) (n : ℕ) → length xs ≤ n → slice_get xs n ≡ None
none_there [] n h = refl
none_there (x ∷ xs) zero h = absurd (omega (arith, h))
none_there (x ∷ xs) (suc n) h = none_there xs n (omega (arith, h))

not_below : (n m : ℕ) → (n < m → ⊥) → m ≤ n
not_below n m h = omega (arith, h)

no_argument : (arguments : List Data) (n : ℕ) → length arguments ≤ n → argument arguments n ≡ None
no_argument arguments n h = ap (option_and_then as_str) (none_there arguments n h)

pub numbered_is : {E : Type 0} (arguments : List Data) (digits : List ℕ) (r : Result ℕ E) (n : ℕ)
    → length arguments < 2 ^ 64 → 0 < length digits → AllDigits 10 digits → ParsesUnsigned 64 10 digits r
    → n ≡ result_unwrap_or r (length arguments) → argument arguments n ≡ argument arguments (digits_value 10 digits)
numbered_is {E = E} arguments digits (Ok x) n small some all h is =
    let read = parse_digits own {E = E} 64 digits (Ok x) h (own.from digits all) in
    ap (argument arguments) (is ∙ read.1)
numbered_is {E = E} arguments digits (Err e) n small some all h is =
    let unread = parse_digits own {E = E} 64 digits (Err e) h (own.from digits all) in
    let big : 2 ^ 64 ≤ digits_value 10 digits =
    not_below (digits_value 10 digits) (2 ^ 64) (λ low. unread (some, low)) in
    no_argument arguments n (omega (arith, is)) ∙ sym (no_argument arguments (digits_value 10 digits)
    (omega (arith, small, big)))

pub first_alone : (xs : List ℕ) → 0 < length xs → take 1 xs ≡ get_or xs 0 0 ∷ []
first_alone [] h = absurd (omega (arith, h))
first_alone (x ∷ xs) h = refl

pub first_two : (xs : List ℕ) → 1 < length xs → take 2 xs ≡ get_or xs 0 0 ∷ (get_or (drop 1 xs) 0 0 ∷ [])
first_two [] h = absurd (omega (arith, h))
first_two (x ∷ []) h = absurd (omega (arith, h))
first_two (x ∷ (y ∷ ys)) h = refl
