-- The spelling of a value stands for it.
use Rattle.std.proofs.Common.{◌≡◌, ◌≢◌, ◌⊎◌, inl, inr, ℕ, zero, suc, ◌+◌, ◌-◌, ◌*◌, ◌/◌, ◌%◌, ◌^◌, ◌<◌, ◌≤◌, Bool, true}
use Rattle.std.proofs.Common.{false, cond, List, [], ◌∷◌, ◌++◌, refl, sym, ap, ◌∙◌, subst, arith, append_assoc}
use Rattle.std.proofs.Common.{append-nil, add-one, length, get_or, take, drop}
use Rattle.std.specs.Prelude.{◌==◌, nat_lt, not, Some, None, position}
use Rattle.std.specs.List.{position_or_len, prefix_len}
use Rattle.std.proofs.Math.Seq.{drop-cons}
use Rattle.std.proofs.lemmas.List.Quantifiers.{position-Some}
use Rattle.std.specs.Char.{encode_utf8, digit_char, digit_value}
use Rattle.std.specs.Fmt.{decimal}
use Rattle.std.proofs.lemmas.Fmt.{decimal_by_steps}
use Rattle.std.proofs.lemmas.Bool.{ltb-true, ltb-false, lt-ltb, le-ltb, cases_lt}
use Rattle.std.proofs.lemmas.Bool.Decides.{eqb_tells, nat_tests}
use Rattle.std.proofs.lemmas.Str.{encode_ascii, digit_value-digit_char}
use Rattle.miette_json.specs.rules.Json.{Json, number, string, array, object, Items, no_items, item, Members}
use Rattle.miette_json.specs.rules.Json.{no_members, member, digits_within, numeral, escaped_text, quoted_text}
use Rattle.miette_json.specs.rules.Json.{json_text, items_text, more_items_text, members_text, more_members_text}
use Rattle.miette_json.specs.rules.Denotes.{Token, structural, text, whole, tokens_then, items_then, more_items_then}
use Rattle.miette_json.specs.rules.Denotes.{members_then, more_members_then, StringPart, plain, short, unit, short_for}
use Rattle.miette_json.specs.rules.Denotes.{IsStringPart, hex, string_part_text, part_value, AreStringParts}
use Rattle.miette_json.specs.rules.Denotes.{all_written}
use Rattle.miette_json.specs.rules.Denotes.{all_meant, IsDigit, AreDigits, value_after, NoLeadingZero, NoDigitNext}
use Rattle.miette_json.specs.rules.Denotes.{IsStructural, IsString, IsNumber, BeginsWithToken, Next, AreJsonTokens}
use Rattle.miette_json.specs.rules.Denotes.{HasTokensOf}
use Rattle.miette_json.specs.steps.EscapedBytes.{begins_escaped, control_text, is_escaped}
use Rattle.json.specs.Print.{escape_letter, escape_byte}

-- ---- numbers

-- digits that stand for n
record Reads (n : ℕ) (ds : List ℕ) : Type 0 where
  first : ℕ
  others : List ℕ
  is : ds ≡ first ∷ others
  digits : AreDigits (first ∷ others)
  leads : (others ≡ []) ⊎ (48 < first)
  above : 0 < n → 48 < first
  value : value_after 0 (first ∷ others) ≡ n

digits_last : (ds : List ℕ) (d : ℕ) → AreDigits ds → IsDigit d → AreDigits (ds ++ d ∷ [])
digits_last [] d r s = (s, tt)
digits_last (x ∷ ds) d r s = (r.0, digits_last ds d r.1 s)

value_last : (n : ℕ) (ds : List ℕ) (d : ℕ) → value_after n (ds ++ d ∷ []) ≡ value_after n ds * 10 + (d - 48)
value_last n [] d = refl
value_last n (x ∷ ds) d = value_last (n * 10 + (x - 48)) ds d

reads_more : (n : ℕ) (ds : List ℕ) → 10 ≤ n → Reads (n / 10) ds → Reads n (ds ++ (48 + n % 10) ∷ [])
reads_more n ds h r = record {
  first = r.first;
  others = r.others ++ (48 + n % 10) ∷ [];
  is = ap (λ l. l ++ (48 + n % 10) ∷ []) r.is;
  digits = (r.digits.0, digits_last r.others (48 + n % 10) r.digits.1 (omega arith, omega arith));
  leads = inr (r.above (omega arith));
  above = λ _. r.above (omega arith);
  value = let v = value_last 0 (r.first ∷ r.others) (48 + n % 10) in omega (arith, v, r.value);
}

reads_step : (n : ℕ) (rest : List ℕ) (b : Bool) → nat_lt n 10 ≡ b → (10 ≤ n → Reads (n / 10) rest)
    → Reads n (cond b ((48 + n) ∷ []) (rest ++ (48 + n % 10) ∷ []))
reads_step n rest true e r =
    let l : n < 10 = ltb-true n 10 e in
    record {
      first = 48 + n;
      others = [];
      is = refl;
      digits = ((omega arith, omega arith), tt);
      leads = inl refl;
      above = λ p. omega arith;
      value = omega arith;
    }
reads_step n rest false e r = let l : 10 ≤ n = ltb-false n 10 e in reads_more n rest l (r l)

reads_within : (most n : ℕ) → n < most → Reads n (digits_within most n)
reads_within zero n h = absurd (omega arith)
reads_within (suc most) n h = reads_step n (digits_within most (n / 10)) (nat_lt n 10) refl
    (λ l. reads_within most (n / 10) (omega arith))

no_zero : (x : ℕ) (xs : List ℕ) → 48 < x → NoLeadingZero (x ∷ xs)
no_zero x [] h = tt
no_zero x (y ∷ xs) h = h

zero_free : (x : ℕ) (xs : List ℕ) → (xs ≡ []) ⊎ (48 < x) → NoLeadingZero (x ∷ xs)
zero_free x xs (inl e) = subst (λ l. NoLeadingZero (x ∷ l)) (sym e) tt
zero_free x xs (inr h) = no_zero x xs h

pub number_spelled : (n : ℕ) (rest : List ℕ) → NoDigitNext rest → IsNumber n (numeral n ++ rest) rest
unfolding numeral
number_spelled n rest h =
    let r = reads_within (suc n) n (omega arith) in
    record {
      first = r.first;
      others = r.others;
      digits = r.digits;
      no_zero = zero_free r.first r.others r.leads;
      value = r.value;
      spelled = ap (λ l. l ++ rest) r.is;
      ends = h;
    }

-- ---- the digits of one number, whatever their bound

within_step : (n : ℕ) (xs ys : List ℕ) (b : Bool) → nat_lt n 10 ≡ b → (10 ≤ n → xs ≡ ys)
    → cond b ((48 + n) ∷ []) (xs ++ (48 + n % 10) ∷ []) ≡ cond b ((48 + n) ∷ []) (ys ++ (48 + n % 10) ∷ [])
within_step n xs ys true e f = refl
within_step n xs ys false e f = ap (λ l. l ++ (48 + n % 10) ∷ []) (f (ltb-false n 10 e))

within_same : (f g n : ℕ) → n < f → n < g → digits_within f n ≡ digits_within g n
within_same zero g n h k = absurd (omega arith)
within_same (suc f) zero n h k = absurd (omega arith)
within_same (suc f) (suc g) n h k = within_step n (digits_within f (n / 10)) (digits_within g (n / 10)) (nat_lt n 10)
    refl (λ l. within_same f g (n / 10) (omega arith) (omega arith))

pub numeral_low : (n : ℕ) → n < 10 → numeral n ≡ (48 + n) ∷ []
unfolding numeral
numeral_low n h = rw (lt-ltb n 10 h) refl

pub numeral_high : (n : ℕ) → 10 ≤ n → numeral n ≡ numeral (n / 10) ++ (48 + n % 10) ∷ []
unfolding numeral
numeral_high n h = rw (le-ltb n 10 h) (ap (λ l. l ++ (48 + n % 10) ∷ [])
    (within_same n (suc (n / 10)) (n / 10) (omega arith) (omega arith)))

-- std's decimal text of a number that a machine holds
pub numeral_decimal : (n : ℕ) → n < 2 ^ 64 → numeral n ≡ decimal n
numeral_decimal n h = decimal_by_steps (λ m ds. numeral m ≡ ds) (λ m l. numeral_low m l)
    (λ m ds l e. numeral_high m l ∙ ap (λ x. x ++ (48 + m % 10) ∷ []) e) n h

-- ---- escapes

-- a byte with a short escape
pub record HasLetter (x : ℕ) : Type 0 where
  pub above : 0 < escape_letter x
  pub back : short_for (escape_letter x) ≡ x
  pub low : x < 128
  pub seen : 0 < x

-- a byte is this one, which has a short escape, or what is known of another holds
letter_or : (x y : ℕ) → 0 < escape_letter y → short_for (escape_letter y) ≡ y → y < 128 → 0 < y
    → ((x == y) ≡ false → HasLetter x ⊎ (escape_letter x ≡ 0)) → HasLetter x ⊎ (escape_letter x ≡ 0)
letter_or x y above back low seen other =
    elim (eqb_tells x y) [
      | inl e ↦ inl (subst HasLetter (sym e.1) (record { above = above; back = back; low = low; seen = seen }))
      | inr e ↦ other e.0
    ]

pub letter_cases : (x : ℕ) → HasLetter x ⊎ (escape_letter x ≡ 0)
letter_cases x =
    letter_or x 34 (omega arith) refl (omega arith) (omega arith) (λ a.
    letter_or x 92 (omega arith) refl (omega arith) (omega arith) (λ b.
    letter_or x 8 (omega arith) refl (omega arith) (omega arith) (λ d.
    letter_or x 12 (omega arith) refl (omega arith) (omega arith) (λ f.
    letter_or x 10 (omega arith) refl (omega arith) (omega arith) (λ g.
    letter_or x 13 (omega arith) refl (omega arith) (omega arith) (λ h.
    letter_or x 9 (omega arith) refl (omega arith) (omega arith) (λ k.
    inr (rw (a, b, d, f, g, h, k) refl))))))))

-- the three ways to write a byte
pub byte_short : (x : ℕ) → 0 < escape_letter x → escape_byte x ≡ 92 ∷ escape_letter x ∷ []
unfolding escape_byte
byte_short x h = rw (lt-ltb 0 (escape_letter x) h) refl

pub byte_low : (x : ℕ) → escape_letter x ≡ 0 → x < 32 → escape_byte x ≡ 92 ∷ 117 ∷ 48 ∷ 48 ∷ digit_char (x / 16)
    ∷ digit_char (x % 16) ∷ []
unfolding escape_byte
byte_low x e h = rw (le-ltb 0 (escape_letter x) (omega arith), lt-ltb x 32 h) refl

byte_plain : (x : ℕ) → escape_letter x ≡ 0 → 32 ≤ x → escape_byte x ≡ x ∷ []
unfolding escape_byte
byte_plain x e h = rw (le-ltb 0 (escape_letter x) (omega arith), le-ltb x 32 h) refl

-- a byte that may not stand for itself and has no short escape is a control character
pub byte_control : (x : ℕ) → x ≢ 34 → x ≢ 92 → x ≢ 8 → x ≢ 12 → x ≢ 10 → x ≢ 13 → x ≢ 9 → is_escaped x ≡ true
    → escape_byte x ≡ 92 ∷ 117 ∷ 48 ∷ 48 ∷ digit_char (x / 16) ∷ digit_char (x % 16) ∷ []
byte_control x a b d f g h k e =
    let none : escape_letter x ≡ 0 = grind (arith, nat_tests) in
    let low : x < 32 = grind (arith, nat_tests) in
    byte_low x none low

-- a byte that may stand for itself does
pub byte_itself : (x : ℕ) → is_escaped x ≡ false → escape_byte x ≡ x ∷ []
byte_itself x e =
    let none : escape_letter x ≡ 0 = grind (arith, nat_tests) in
    let high : 32 ≤ x = grind (arith, nat_tests) in
    byte_plain x none high

pub escaped_is_ascii : (x : ℕ) → is_escaped x ≡ true → x < 128
escaped_is_ascii x e = grind (arith, nat_tests)

-- bytes that stand for themselves, in front of others
escaped_run : (xs : List ℕ) (i : ℕ) → i ≤ length xs → ((k : ℕ) → k < i → is_escaped (get_or xs k 0) ≡ false)
    → escaped_text xs ≡ take i xs ++ escaped_text (drop i xs)
escaped_run xs zero h f = refl
escaped_run [] (suc i) h f = absurd (omega arith)
escaped_run (x ∷ xs) (suc i) h f =
    ap (λ l. l ++ escaped_text xs) (byte_itself x (f 0 (omega arith)))
    ∙ ap (λ l. x ∷ l) (escaped_run xs i (omega arith) (λ k l. f (suc k) (omega arith)))

-- the first byte that may not stand for itself
pub record NextEscape (xs : List ℕ) (i : ℕ) : Type 0 where
  pub inside : i < length xs
  pub here : is_escaped (get_or xs i 0) ≡ true
  pub low : get_or xs i 0 < 128
  pub before : (k : ℕ) → k < i → is_escaped (get_or xs k 0) ≡ false

pub next_escape : (xs : List ℕ) (i : ℕ) → Some i ≡ position is_escaped xs → NextEscape xs i
next_escape xs i e =
    let found = position-Some is_escaped xs i 0 (sym e) in
    record { inside = found.0; here = found.1; low = escaped_is_ascii (get_or xs i 0) found.1; before = found.2 }

-- what is written up to it
pub plain_written : (start mid xs goal : List ℕ) (i : ℕ) → NextEscape xs i → start ++ escaped_text xs ≡ goal
    → mid ≡ start ++ take i xs → mid ++ escaped_text (drop i xs) ≡ goal
plain_written start mid xs goal i n e f =
    let after = escaped_text (drop i xs) in
    ap (λ l. l ++ after) f ∙ (append_assoc start (take i xs) after
    ∙ (ap (λ l. start ++ l) (sym (escaped_run xs i (omega (arith, n.inside)) n.before)) ∙ e))

-- the bytes after it begin with it
pub escape_begins : (xs : List ℕ) (i : ℕ) → NextEscape xs i → begins_escaped (drop i xs) ≡ true
escape_begins xs i n = ap begins_escaped (drop-cons xs i 0 n.inside) ∙ n.here

-- a byte at the front that may not stand for itself
pub first_escaped : (xs : List ℕ) → begins_escaped xs ≡ true → NextEscape xs 0
first_escaped [] h = cc
first_escaped (x ∷ xs) h = record {
  inside = omega arith;
  here = h;
  low = escaped_is_ascii x h;
  before = λ k l. absurd (omega arith);
}

-- what is written with it
pub escape_written : (start new xs goal : List ℕ) → begins_escaped xs ≡ true → start ++ escaped_text xs ≡ goal
    → new ≡ start ++ escape_byte (get_or xs 0 0) → new ++ escaped_text (drop 1 xs) ≡ goal
escape_written start new [] goal h e f = cc
escape_written start new (x ∷ xs) goal h e f =
    ap (λ l. l ++ escaped_text xs) f ∙ (append_assoc start (escape_byte x) (escaped_text xs) ∙ e)

-- no byte is escaped where none is found
one_plain : (x : ℕ) (xs : List ℕ) (b : Bool) → is_escaped x ≡ b → suc (length xs)
    ≤ cond (not b) (1 + prefix_len (λ y. not (is_escaped y)) xs) 0
    → (length xs ≤ prefix_len (λ y. not (is_escaped y)) xs → escaped_text xs ≡ xs) → escaped_text (x ∷ xs) ≡ x ∷ xs
one_plain x xs true e l f = absurd (omega arith)
one_plain x xs false e l f = ap (λ b. b ++ escaped_text xs) (byte_itself x e) ∙ ap (λ b. x ∷ b) (f (omega arith))

all_plain : (xs : List ℕ) → length xs ≤ prefix_len (λ x. not (is_escaped x)) xs → escaped_text xs ≡ xs
all_plain [] h = refl
all_plain (x ∷ xs) h = one_plain x xs (is_escaped x) refl h (all_plain xs)

none_found : (xs : List ℕ) (b : Bool) → nat_lt (position_or_len is_escaped xs) (length xs) ≡ b → None
    ≡ cond b (Some (position_or_len is_escaped xs)) None → escaped_text xs ≡ xs
none_found xs true f g = cc
none_found xs false f g = all_plain xs (ltb-false (position_or_len is_escaped xs) (length xs) f)

pub none_escaped : (xs : List ℕ) → None ≡ position is_escaped xs → escaped_text xs ≡ xs
none_escaped xs e = none_found xs (nat_lt (position_or_len is_escaped xs) (length xs)) refl e

-- a letter that has a short escape isn't among those that have none
no_such : (x y : ℕ) → escape_letter x ≡ 0 → 0 < escape_letter y → x ≢ y
no_such x y e h i = let same : escape_letter x ≡ escape_letter y = ap escape_letter i in omega arith

-- ---- what several writes add

-- the front and the last digit are written
pub control_written : (out front mid new : List ℕ) (x l : ℕ) → front ≡ 92 ∷ 117 ∷ 48 ∷ 48 ∷ digit_char (x / 16) ∷ []
    → mid ≡ out ++ front → l ≡ digit_char (x % 16) → l < 128 → new ≡ mid ++ encode_utf8 l → new ≡ out ++ control_text x
control_written out front mid new x l i f j m g =
    let low : encode_utf8 l ≡ digit_char (x % 16) ∷ [] = encode_ascii l m ∙ ap (λ y. y ∷ []) j in
    g ∙ (ap (λ y. y ++ encode_utf8 l) f ∙ (append_assoc out front (encode_utf8 l)
    ∙ (ap (λ y. out ++ (y ++ encode_utf8 l)) i
    ∙ ap (λ y. out ++ 92 ∷ 117 ∷ 48 ∷ 48 ∷ digit_char (x / 16) ∷ y) low)))

-- the front of what stands for a control character, by its first digit
pub front_low : (x : ℕ) → x < 16 → 92 ∷ 117 ∷ 48 ∷ 48 ∷ 48 ∷ [] ≡ 92 ∷ 117 ∷ 48 ∷ 48 ∷ digit_char (x / 16) ∷ []
front_low x h = let zero_first : x / 16 ≡ 0 = omega arith in rw zero_first refl

pub front_high : (x : ℕ) → 16 ≤ x → x < 32
    → 92 ∷ 117 ∷ 48 ∷ 48 ∷ 49 ∷ [] ≡ 92 ∷ 117 ∷ 48 ∷ 48 ∷ digit_char (x / 16) ∷ []
front_high x l h = let one_first : x / 16 ≡ 1 = omega arith in rw one_first refl

-- a byte that is none of those with a short escape, but escaped, is a control character
pub control_low : (x : ℕ) → x ≢ 34 → x ≢ 92 → is_escaped x ≡ true → x < 32
control_low x a b e = grind (arith, nat_tests)

-- ---- a string stands for its bytes

record SpellsByte (x : ℕ) : Type 0 where
  piece : StringPart
  right : IsStringPart piece
  spelled : (rest : List ℕ) → escape_byte x ++ rest ≡ string_part_text piece rest
  means : part_value piece ≡ x ∷ []

low_byte : (x : ℕ) → escape_letter x ≡ 0 → x < 32 → SpellsByte x
low_byte x e h =
    let high : digit_value (digit_char (x / 16)) ≡ x / 16 = digit_value-digit_char (x / 16) (omega arith) in
    let low : digit_value (digit_char (x % 16)) ≡ x % 16 = digit_value-digit_char (x % 16) (omega arith) in
    let value : hex 48 48 (digit_char (x / 16)) (digit_char (x % 16)) ≡ x = omega (arith, high, low) in
    record {
      piece = unit 48 48 (digit_char (x / 16)) (digit_char (x % 16));
      right = ((omega arith, omega arith, omega (arith, high), omega (arith, low)), inl (omega (arith, value)));
      spelled = λ rest. ap (λ l. l ++ rest) (byte_low x e h);
      means = ap encode_utf8 value ∙ encode_ascii x (omega arith);
    }

spells_byte : (x : ℕ) → SpellsByte x
spells_byte x = elim (letter_cases x) [
  | inl l ↦ record {
    piece = short (escape_letter x);
    right = λ z. absurd (omega (arith, l.back, l.seen, z));
    spelled = λ rest. ap (λ t. t ++ rest) (byte_short x l.above);
    means = ap (λ n. n ∷ []) l.back;
  }
  | inr e ↦ elim (cases_lt x 32) [
    | inl h ↦ low_byte x e h
    | inr h ↦ record {
      piece = plain x;
      right = (h, no_such x 34 e (omega arith), no_such x 92 e (omega arith));
      spelled = λ rest. ap (λ t. t ++ rest) (byte_plain x e h);
      means = refl;
    }
  ]
]

record SpellsAll (s : List ℕ) : Type 0 where
  pieces : List StringPart
  right : AreStringParts pieces
  spelled : (rest : List ℕ) → escaped_text s ++ rest ≡ all_written pieces rest
  means : all_meant pieces ≡ s

spells_all : (s : List ℕ) → SpellsAll s
spells_all [] = record { pieces = []; right = tt; spelled = λ rest. refl; means = refl }
spells_all (x ∷ s) =
    let b = spells_byte x in
    let r = spells_all s in
    record {
      pieces = b.piece ∷ r.pieces;
      right = (b.right, r.right);
      spelled = λ rest. append_assoc (escape_byte x) (escaped_text s) rest
          ∙ (b.spelled (escaped_text s ++ rest) ∙ ap (string_part_text b.piece) (r.spelled rest));
      means = ap (λ l. l ++ all_meant r.pieces) b.means ∙ ap (λ l. x ∷ l) r.means;
    }

string_spelled : (s rest : List ℕ) → IsString s (quoted_text s ++ rest) rest
string_spelled s rest =
    let r = spells_all s in
    record {
      pieces = r.pieces;
      right = r.right;
      spelled = ap (λ l. 34 ∷ l) (append_assoc (escaped_text s) (34 ∷ []) rest ∙ r.spelled (34 ∷ rest));
      means = r.means;
    }

-- ---- values

at_once : (t : Token) (bytes rest : List ℕ) → BeginsWithToken t bytes rest → Next t bytes rest
at_once t bytes rest b = record { space = []; blank = tt; after = bytes; spaced = refl; begins = b }

-- a space in front changes nothing
after_space : (ts : List Token) (bytes : List ℕ) → AreJsonTokens ts bytes → AreJsonTokens ts (32 ∷ bytes)
after_space [] bytes r = (inl refl, r)
after_space (t ∷ ts) bytes r = (
  r.0,
  record {
    space = 32 ∷ r.1.space;
    blank = (inl refl, r.1.blank);
    after = r.1.after;
    spaced =
        ap (λ l. 32 ∷ l) r.1.spaced;
    begins = r.1.begins;
  },
  r.2,
)

put : (x : ℕ) (ts : List Token) (bytes : List ℕ) → IsStructural x → AreJsonTokens ts bytes
    → AreJsonTokens (structural x ∷ ts) (x ∷ bytes)
put x ts bytes m r = (bytes, at_once (structural x) (x ∷ bytes) bytes (m, refl), r)

more_items_end : (is : Items) (rest : List ℕ) → NoDigitNext (more_items_text is ++ rest)
more_items_end no_items rest = inr (omega arith)
more_items_end (item v more) rest = inl (omega arith)

more_members_end : (ms : Members) (rest : List ℕ) → NoDigitNext (more_members_text ms ++ rest)
more_members_end no_members rest = inr (omega arith)
more_members_end (member k v more) rest = inl (omega arith)

-- a key, a colon, a space and a value
key_spelled : (k : List ℕ) (v : Json) (more : Members) (ts : List Token) (rest : List ℕ)
    → AreJsonTokens (tokens_then v (more_members_then more ts)) (json_text v ++ (more_members_text more ++ rest))
    → AreJsonTokens (text k ∷ structural 58 ∷ tokens_then v (more_members_then more ts))
    ((quoted_text k ++ (58 ∷ 32 ∷ (json_text v ++ more_members_text more))) ++ rest)
key_spelled k v more ts rest r =
    let us : List Token = tokens_then v (more_members_then more ts) in
    let tail : List ℕ = (json_text v ++ more_members_text more) ++ rest in
    let colon : AreJsonTokens (structural 58 ∷ us) (58 ∷ 32 ∷ tail) =
    put 58 us (32 ∷ tail) (inr (inl refl)) (after_space us tail
    (subst (AreJsonTokens us) (sym (append_assoc (json_text v) (more_members_text more) rest)) r)) in
    let key : AreJsonTokens (text k ∷ structural 58 ∷ us) (quoted_text k ++ (58 ∷ 32 ∷ tail)) = (
      58 ∷ 32 ∷ tail,
      at_once (text k) (quoted_text k ++ (58 ∷ 32 ∷ tail)) (58 ∷ 32 ∷ tail)
          (string_spelled k (58 ∷ 32 ∷ tail)),
      colon,
    ) in
    subst (AreJsonTokens (text k ∷ structural 58 ∷ us)) (sym (append_assoc (quoted_text k)
    (58 ∷ 32 ∷ (json_text v ++ more_members_text more)) rest)) key

mutual
  value_spelled : (v : Json) (ts : List Token) (rest : List ℕ) → NoDigitNext rest → AreJsonTokens ts rest
      → AreJsonTokens (tokens_then v ts) (json_text v ++ rest)
  value_spelled (number n) ts rest h r = (rest, at_once (whole n) (numeral n ++ rest) rest (number_spelled n rest h), r)
  value_spelled (string s) ts rest h r = (
    rest,
    at_once (text s) (quoted_text s ++ rest) rest (string_spelled s rest),
    r,
  )
  value_spelled (array is) ts rest h r = put 91 (items_then is ts) (items_text is ++ rest) (inr (inr (inl refl)))
      (items_spelled is ts rest r)
  value_spelled (object ms) ts rest h r = put 123 (members_then ms ts) (members_text ms ++ rest)
      (inr (inr (inr (inr (inl refl))))) (members_spelled ms ts rest r)

  items_spelled : (is : Items) (ts : List Token) (rest : List ℕ) → AreJsonTokens ts rest
      → AreJsonTokens (items_then is ts) (items_text is ++ rest)
  items_spelled no_items ts rest r = put 93 ts rest (inr (inr (inr (inl refl)))) r
  items_spelled (item v more) ts rest r =
      subst (AreJsonTokens (tokens_then v (more_items_then more ts)))
      (sym (append_assoc (json_text v) (more_items_text more) rest))
      (value_spelled v (more_items_then more ts) (more_items_text more ++ rest) (more_items_end more rest)
      (more_items_spelled more ts rest r))

  more_items_spelled : (is : Items) (ts : List Token) (rest : List ℕ) → AreJsonTokens ts rest
      → AreJsonTokens (more_items_then is ts) (more_items_text is ++ rest)
  more_items_spelled no_items ts rest r = put 93 ts rest (inr (inr (inr (inl refl)))) r
  more_items_spelled (item v more) ts rest r =
      put 44 (tokens_then v (more_items_then more ts)) ((json_text v ++ more_items_text more) ++ rest) (inl refl)
      (subst (AreJsonTokens (tokens_then v (more_items_then more ts)))
      (sym (append_assoc (json_text v) (more_items_text more) rest))
      (value_spelled v (more_items_then more ts) (more_items_text more ++ rest) (more_items_end more rest)
      (more_items_spelled more ts rest r)))

  members_spelled : (ms : Members) (ts : List Token) (rest : List ℕ) → AreJsonTokens ts rest
      → AreJsonTokens (members_then ms ts) (members_text ms ++ rest)
  members_spelled no_members ts rest r = put 125 ts rest (inr (inr (inr (inr (inr refl))))) r
  members_spelled (member k v more) ts rest r =
      key_spelled k v more ts rest (value_spelled v (more_members_then more ts) (more_members_text more ++ rest)
      (more_members_end more rest) (more_members_spelled more ts rest r))

  more_members_spelled : (ms : Members) (ts : List Token) (rest : List ℕ) → AreJsonTokens ts rest
      → AreJsonTokens (more_members_then ms ts) (more_members_text ms ++ rest)
  more_members_spelled no_members ts rest r = put 125 ts rest (inr (inr (inr (inr (inr refl))))) r
  more_members_spelled (member k v more) ts rest r =
      put 44 (text k ∷ structural 58 ∷ tokens_then v (more_members_then more ts)) _ (inl refl)
      (key_spelled k v more ts rest (value_spelled v (more_members_then more ts) (more_members_text more ++ rest)
      (more_members_end more rest) (more_members_spelled more ts rest r)))

pub spelling_tokens_lem : (v : Json) → HasTokensOf (json_text v) v
spelling_tokens_lem v = subst (AreJsonTokens (tokens_then v [])) (append-nil (json_text v))
    (value_spelled v [] [] tt tt)
