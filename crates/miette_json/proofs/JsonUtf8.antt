-- Which texts and which values are UTF-8.
use Rattle.std.proofs.Common.{◌≡◌, ◌≢◌, ◌⊎◌, inl, inr, ℕ, suc, ◌+◌, ◌-◌, ◌*◌, ◌/◌, ◌%◌, ◌<◌, ◌≤◌, Bool, true, false}
use Rattle.std.proofs.Common.{List, [], ◌∷◌, ◌++◌, refl, sym, ap, ◌∙◌, subst, arith, append_assoc, append-nil, add-one}
use Rattle.std.proofs.Common.{length, get_or, drop}
use Rattle.std.specs.Prelude.{IsUtf8}
use Rattle.std.specs.Char.{digit_char, digit_value, IsScalar}
use Rattle.std.proofs.lemmas.Bool.{le-ltb, cases_lt}
use Rattle.std.proofs.lemmas.Bool.Decides.{nat_tests}
use Rattle.std.proofs.lemmas.Str.{encode_ascii, digit_value-digit_char, IsUtf8-nil, IsUtf8-append, IsUtf8-encode}
use Rattle.std.proofs.lemmas.Str.{IsUtf8-take, IsUtf8-drop, IsCharBoundary-before_ascii, IsCharBoundary-after_ascii}
use Rattle.std.proofs.lemmas.List.{take_at}
use Rattle.miette_json.specs.rules.Json.{Json, number, string, array, object, Items, no_items, item, Members}
use Rattle.miette_json.specs.rules.Json.{no_members, member, numeral, escaped_text, quoted_text, json_text, items_text}
use Rattle.miette_json.specs.rules.Json.{more_items_text, members_text, more_members_text}
use Rattle.miette_json.specs.rules.Denotes.{Token, text, whole, tokens_then, items_then, more_items_then, members_then}
use Rattle.miette_json.specs.rules.Denotes.{more_members_then, StringPart, plain, short, unit, pair, short_for, IsHex}
use Rattle.miette_json.specs.rules.Denotes.{AreHex, hex, AreStringParts, all_written, all_meant, AreDigits, AreBlank}
use Rattle.miette_json.specs.rules.Denotes.{IsBlank, IsString, Next, AreJsonTokens, structural, IsStructural}
use Rattle.miette_json.specs.steps.EscapedBytes.{is_escaped}
use Rattle.miette_json.specs.laws.Utf8Texts.{TextsAreUtf8, HasUtf8Texts}
use Rattle.miette_json.proofs.JsonSpelled.{letter_cases, byte_short, byte_low, byte_itself, escaped_is_ascii}
use Rattle.miette_json.proofs.JsonSpelled.{number_spelled}
use Rattle.json.specs.Print.{escape_letter, escape_byte}

-- ---- texts are cut at ASCII bytes

at_seam : (pre rest : List ℕ) (x : ℕ) → get_or (pre ++ x ∷ rest) (length pre) 0 ≡ x
at_seam [] rest x = refl
at_seam (y ∷ pre) rest x = at_seam pre rest x

inside : (pre rest : List ℕ) (x : ℕ) → length pre < length (pre ++ x ∷ rest)
inside [] rest x = omega arith
inside (y ∷ pre) rest x = let h = inside pre rest x in omega (arith, h)

dropped_after : (pre rest : List ℕ) (x : ℕ) → drop (suc (length pre)) (pre ++ x ∷ rest) ≡ rest
dropped_after [] rest x = refl
dropped_after (y ∷ pre) rest x = dropped_after pre rest x

cut : (pre rest : List ℕ) (x : ℕ) → x < 128 → IsUtf8 (pre ++ x ∷ rest) → IsUtf8 pre × IsUtf8 rest
cut pre rest x low u =
    let bytes : List ℕ = pre ++ x ∷ rest in
    let i : ℕ = length pre in
    let on : i < length bytes = inside pre rest x in
    let here : get_or bytes i 0 < 128 = subst (λ n. n < 128) (sym (at_seam pre rest x)) low in
    let back : drop (i + 1) bytes ≡ rest = ap (λ n. drop n bytes) (add-one i) ∙ dropped_after pre rest x in (
      subst IsUtf8 (take_at pre (x ∷ rest) (length pre) refl)
          (IsUtf8-take bytes i u (IsCharBoundary-before_ascii bytes i on here)),
      subst IsUtf8 back (IsUtf8-drop bytes (i + 1) u (IsCharBoundary-after_ascii bytes i u on here)),
    )

past : (x : ℕ) (rest : List ℕ) → x < 128 → IsUtf8 (x ∷ rest) → IsUtf8 rest
past x rest low u = (cut [] rest x low u).1

-- ---- and put together

scalar_below : (x : ℕ) → x < 0xd800 → IsScalar x
scalar_below x h = grind (arith, nat_tests)

scalar_above : (x : ℕ) → 0xe000 ≤ x → x < 0x110000 → IsScalar x
scalar_above x h k = grind (arith, nat_tests)

one_low : (x : ℕ) → x < 128 → IsUtf8 (x ∷ [])
one_low x low = subst IsUtf8 (encode_ascii x low) (IsUtf8-encode x (scalar_below x (omega arith)))

after_low : (x : ℕ) (rest : List ℕ) → x < 128 → IsUtf8 rest → IsUtf8 (x ∷ rest)
after_low x rest low u = IsUtf8-append (x ∷ []) rest (one_low x low) u

-- ---- escapes are ASCII

short_low : (l : ℕ) → short_for l ≢ 0 → l < 128
short_low l h = grind (arith, nat_tests)

short_value_low : (l : ℕ) → short_for l < 128
short_value_low l = grind (arith, nat_tests)

hex_high : (x : ℕ) → 128 ≤ x → digit_value x ≡ 36
hex_high x h = rw (
  le-ltb x 48 (omega arith),
  le-ltb x 58 (omega arith),
  le-ltb x 65 (omega arith),
  le-ltb x 91 (omega arith),
  le-ltb x 97 (omega arith),
  le-ltb x 123 (omega arith),
) refl

hex_low : (x : ℕ) → IsHex x → x < 128
hex_low x h = elim (cases_lt x 128) [ inl l ↦ l | inr l ↦ let e = hex_high x l in absurd (omega (arith, e, h)) ]

digit_low : (d : ℕ) → d < 16 → digit_char d < 128
digit_low d h = let e = digit_value-digit_char d (omega arith) in hex_low (digit_char d) (omega (arith, e))

two_low : (x y : ℕ) → x < 128 → y < 128 → IsUtf8 (x ∷ y ∷ [])
two_low x y a b = after_low x (y ∷ []) a (one_low y b)

control_utf8 : (x y : ℕ) → x < 128 → y < 128 → IsUtf8 (92 ∷ 117 ∷ 48 ∷ 48 ∷ x ∷ y ∷ [])
control_utf8 x y a b =
    after_low 92 _ (omega arith) (after_low 117 _ (omega arith)
    (after_low 48 _ (omega arith) (after_low 48 _ (omega arith) (two_low x y a b))))

no_letter_low : (x : ℕ) → is_escaped x ≡ true → escape_letter x ≡ 0 → x < 32
no_letter_low x e n = grind (arith, nat_tests)

escape_utf8 : (x : ℕ) → is_escaped x ≡ true → IsUtf8 (escape_byte x)
escape_utf8 x e = elim (letter_cases x) [
  | inl l ↦ subst IsUtf8 (sym (byte_short x l.above)) (two_low 92 (escape_letter x) (omega arith)
      (short_low (escape_letter x) (λ z. absurd (omega (arith, l.back, l.seen, z)))))
  | inr n ↦
      let low : x < 32 = no_letter_low x e n in
      subst IsUtf8 (sym (byte_low x n low)) (control_utf8 (digit_char (x / 16)) (digit_char (x % 16))
      (digit_low (x / 16) (omega arith)) (digit_low (x % 16) (omega arith)))
]

-- ---- the spelling of UTF-8 is UTF-8

-- after what was written before: bytes of a character need not stand in one write
escaped_step : (pre : List ℕ) (x : ℕ) (s : List ℕ) (b : Bool) → is_escaped x ≡ b → IsUtf8 (pre ++ x ∷ s)
    → ((p : List ℕ) → IsUtf8 (p ++ s) → IsUtf8 (p ++ escaped_text s))
    → IsUtf8 (pre ++ escaped_text (x ∷ s))
escaped_step pre x s true e u more =
    let c = cut pre s x (escaped_is_ascii x e) u in
    IsUtf8-append pre (escape_byte x ++ escaped_text s) c.0
    (IsUtf8-append (escape_byte x) (escaped_text s) (escape_utf8 x e) (more [] c.1))
escaped_step pre x s false e u more =
    let same : (pre ++ x ∷ []) ++ escaped_text s ≡ pre ++ (escape_byte x ++ escaped_text s) =
    append_assoc pre (x ∷ []) (escaped_text s) ∙ ap (λ b. pre ++ (b ++ escaped_text s)) (sym (byte_itself x e)) in
    subst IsUtf8 same (more (pre ++ x ∷ []) (subst IsUtf8 (sym (append_assoc pre (x ∷ []) s)) u))

escaped_utf8 : (s pre : List ℕ) → IsUtf8 (pre ++ s) → IsUtf8 (pre ++ escaped_text s)
escaped_utf8 [] pre u = u
escaped_utf8 (x ∷ s) pre u = escaped_step pre x s (is_escaped x) refl u (escaped_utf8 s)

quoted_utf8 : (s : List ℕ) → IsUtf8 s → IsUtf8 (quoted_text s)
quoted_utf8 s u = after_low 34 _ (omega arith) (IsUtf8-append (escaped_text s) (34 ∷ []) (escaped_utf8 s [] u)
    (one_low 34 (omega arith)))

digits_utf8 : (ds : List ℕ) → AreDigits ds → IsUtf8 ds
digits_utf8 [] d = IsUtf8-nil
digits_utf8 (x ∷ ds) d = let l = d.0.1 in after_low x ds (omega (arith, l)) (digits_utf8 ds d.1)

numeral_utf8 : (n : ℕ) → IsUtf8 (numeral n)
numeral_utf8 n =
    let r = number_spelled n [] tt in
    let same : r.first ∷ r.others ≡ numeral n = ap (λ l. r.first ∷ l) (sym (append-nil r.others))
    ∙ (sym r.spelled ∙ append-nil (numeral n)) in
    subst IsUtf8 same (digits_utf8 (r.first ∷ r.others) r.digits)

member_utf8 : (k value more : List ℕ) → IsUtf8 k → IsUtf8 value → IsUtf8 more
    → IsUtf8 (quoted_text k ++ (58 ∷ 32 ∷ (value ++ more)))
member_utf8 k value more a b c =
    IsUtf8-append (quoted_text k) (58 ∷ 32 ∷ (value ++ more)) (quoted_utf8 k a)
    (after_low 58 _ (omega arith) (after_low 32 _ (omega arith) (IsUtf8-append value more b c)))

then_utf8 : {x y : List ℕ} {P : Type 0} → IsUtf8 x → IsUtf8 y × P → IsUtf8 (x ++ y) × P
then_utf8 a b = (IsUtf8-append _ _ a b.0, b.1)

mutual
  value_utf8 : (v : Json) (ts : List Token) → TextsAreUtf8 (tokens_then v ts) → IsUtf8 (json_text v) × TextsAreUtf8 ts
  value_utf8 (number n) ts t = (numeral_utf8 n, t)
  value_utf8 (string s) ts t = (quoted_utf8 s t.0, t.1)
  value_utf8 (array is) ts t = let r = items_utf8 is ts t in (after_low 91 _ (omega arith) r.0, r.1)
  value_utf8 (object ms) ts t = let r = members_utf8 ms ts t in (after_low 123 _ (omega arith) r.0, r.1)

  items_utf8 : (is : Items) (ts : List Token) → TextsAreUtf8 (items_then is ts) → IsUtf8 (items_text is)
      × TextsAreUtf8 ts
  items_utf8 no_items ts t = (one_low 93 (omega arith), t)
  items_utf8 (item v more) ts t =
      let a = value_utf8 v (more_items_then more ts) t in
      then_utf8 a.0 (more_items_utf8 more ts a.1)

  more_items_utf8 : (is : Items) (ts : List Token) → TextsAreUtf8 (more_items_then is ts) → IsUtf8 (more_items_text is)
      × TextsAreUtf8 ts
  more_items_utf8 no_items ts t = (one_low 93 (omega arith), t)
  more_items_utf8 (item v more) ts t =
      let a = value_utf8 v (more_items_then more ts) t in
      let b = then_utf8 a.0 (more_items_utf8 more ts a.1) in
      (after_low 44 _ (omega arith) b.0, b.1)

  members_utf8 : (ms : Members) (ts : List Token) → TextsAreUtf8 (members_then ms ts) → IsUtf8 (members_text ms)
      × TextsAreUtf8 ts
  members_utf8 no_members ts t = (one_low 125 (omega arith), t)
  members_utf8 (member k v more) ts t =
      let a = value_utf8 v (more_members_then more ts) t.1 in
      let b = more_members_utf8 more ts a.1 in
      (member_utf8 k (json_text v) (more_members_text more) t.0 a.0 b.0, b.1)

  more_members_utf8 : (ms : Members) (ts : List Token) → TextsAreUtf8 (more_members_then ms ts)
      → IsUtf8 (more_members_text ms) × TextsAreUtf8 ts
  more_members_utf8 no_members ts t = (one_low 125 (omega arith), t)
  more_members_utf8 (member k v more) ts t =
      let a = value_utf8 v (more_members_then more ts) t.1 in
      let b = more_members_utf8 more ts a.1 in
      (after_low 44 _ (omega arith) (member_utf8 k (json_text v) (more_members_text more) t.0 a.0 b.0), b.1)

pub spelling_utf8_lem : (v : Json) → HasUtf8Texts v → IsUtf8 (json_text v)
spelling_utf8_lem v texts = (value_utf8 v [] texts).0

-- ---- what a text in UTF-8 means is UTF-8

past_hex : (a b c d : ℕ) (rest : List ℕ) → AreHex a b c d → IsUtf8 (92 ∷ 117 ∷ a ∷ b ∷ c ∷ d ∷ rest) → IsUtf8 rest
past_hex a b c d rest h u =
    past d _ (hex_low d h.3) (past c _ (hex_low c h.2) (past b _ (hex_low b h.1)
    (past a _ (hex_low a h.0) (past 117 _ (omega arith) (past 92 _ (omega arith) u)))))

hex_bound : (a b c d : ℕ) → AreHex a b c d → hex a b c d < 0x10000
hex_bound a b c d h = let x = h.0 in let y = h.1 in let z = h.2 in let w = h.3 in omega (arith, x, y, z, w)

unit_scalar : (n : ℕ) → n < 0x10000 → (n < 0xd800) ⊎ (0xe000 ≤ n) → IsScalar n
unit_scalar n h (inl l) = scalar_below n l
unit_scalar n h (inr l) = scalar_above n l (omega arith)

pair_scalar : (m n : ℕ) → 0xd800 ≤ m → m < 0xdc00 → 0xdc00 ≤ n → n < 0xe000
    → IsScalar (0x10000 + (m - 0xd800) * 1024 + (n - 0xdc00))
pair_scalar m n a b c d =
    let code : ℕ = 0x10000 + (m - 0xd800) * 1024 + (n - 0xdc00) in
    let above : 0xe000 ≤ code = omega arith in
    let below : code < 0x110000 = omega arith in
    scalar_above code above below

-- after what stood before: bytes of a character stand for themselves one by one
pieces_utf8 : (ps : List StringPart) (pre rest : List ℕ) → AreStringParts ps
    → IsUtf8 (pre ++ all_written ps (34 ∷ rest)) → IsUtf8 (pre ++ all_meant ps) × IsUtf8 rest
pieces_utf8 [] pre rest r u = let c = cut pre rest 34 (omega arith) u in (subst IsUtf8 (sym (append-nil pre)) c.0, c.1)
pieces_utf8 (plain x ∷ ps) pre rest r u =
    let q = pieces_utf8 ps (pre ++ x ∷ []) rest r.1 (subst IsUtf8
    (sym (append_assoc pre (x ∷ []) (all_written ps (34 ∷ rest)))) u) in
    (subst IsUtf8 (append_assoc pre (x ∷ []) (all_meant ps)) q.0, q.1)
pieces_utf8 (short l ∷ ps) pre rest r u =
    let c = cut pre (l ∷ all_written ps (34 ∷ rest)) 92 (omega arith) u in
    let q = pieces_utf8 ps [] rest r.1 (past l _ (short_low l r.0) c.1) in
    (IsUtf8-append pre _ c.0 (after_low (short_for l) _ (short_value_low l) q.0), q.1)
pieces_utf8 (unit x y z w ∷ ps) pre rest r u =
    let more : List ℕ = all_written ps (34 ∷ rest) in
    let c = cut pre (117 ∷ x ∷ y ∷ z ∷ w ∷ more) 92 (omega arith) u in
    let q = pieces_utf8 ps [] rest r.1 (past_hex x y z w more r.0.0 (after_low 92 _ (omega arith) c.1)) in
    let means = IsUtf8-encode (hex x y z w) (unit_scalar _ (hex_bound x y z w r.0.0) r.0.1) in
    (IsUtf8-append pre _ c.0 (IsUtf8-append _ (all_meant ps) means q.0), q.1)
pieces_utf8 (pair x y z w i j k l ∷ ps) pre rest r u =
    let more : List ℕ = all_written ps (34 ∷ rest) in
    let c = cut pre (117 ∷ x ∷ y ∷ z ∷ w ∷ 92 ∷ 117 ∷ i ∷ j ∷ k ∷ l ∷ more) 92 (omega arith) u in
    let first = past_hex x y z w (92 ∷ 117 ∷ i ∷ j ∷ k ∷ l ∷ more) r.0.0 (after_low 92 _ (omega arith) c.1) in
    let q = pieces_utf8 ps [] rest r.1 (past_hex i j k l more r.0.1 first) in
    let means = IsUtf8-encode _ (pair_scalar (hex x y z w) (hex i j k l) r.0.2 r.0.3 r.0.4 r.0.5) in
    (IsUtf8-append pre _ c.0 (IsUtf8-append _ (all_meant ps) means q.0), q.1)

string_utf8 : (s bytes rest : List ℕ) → IsString s bytes rest → IsUtf8 bytes → IsUtf8 s × IsUtf8 rest
string_utf8 s bytes rest f u =
    let q = pieces_utf8 f.pieces [] rest f.right (past 34 _ (omega arith) (subst IsUtf8 f.spelled u)) in
    (subst IsUtf8 f.means q.0, q.1)

past_digits : (ds rest : List ℕ) → AreDigits ds → IsUtf8 (ds ++ rest) → IsUtf8 rest
past_digits [] rest d u = u
past_digits (x ∷ ds) rest d u = let l = d.0.1 in past_digits ds rest d.1 (past x _ (omega (arith, l)) u)

blank_low : (x : ℕ) → IsBlank x → x < 128
blank_low x (inl h) = omega arith
blank_low x (inr (inl h)) = omega arith
blank_low x (inr (inr (inl h))) = omega arith
blank_low x (inr (inr (inr h))) = omega arith

past_blank : (space rest : List ℕ) → AreBlank space → IsUtf8 (space ++ rest) → IsUtf8 rest
past_blank [] rest b u = u
past_blank (x ∷ space) rest b u = past_blank space rest b.1 (past x _ (blank_low x b.0) u)

mark_low : (x : ℕ) → IsStructural x → x < 128
mark_low x (inl h) = omega arith
mark_low x (inr (inl h)) = omega arith
mark_low x (inr (inr (inl h))) = omega arith
mark_low x (inr (inr (inr (inl h)))) = omega arith
mark_low x (inr (inr (inr (inr (inl h))))) = omega arith
mark_low x (inr (inr (inr (inr (inr h))))) = omega arith

after_space : (t : Token) (bytes rest : List ℕ) (f : Next t bytes rest) → IsUtf8 bytes → IsUtf8 f.after
after_space t bytes rest f u = past_blank f.space f.after f.blank (subst IsUtf8 f.spaced u)

pub tokens_utf8 : (ts : List Token) (bytes : List ℕ) → IsUtf8 bytes → AreJsonTokens ts bytes → TextsAreUtf8 ts
tokens_utf8 [] bytes u f = tt
tokens_utf8 (structural x ∷ ts) bytes u f =
    let after = after_space (structural x) bytes f.0 f.1 u in
    tokens_utf8 ts f.0 (past x f.0 (mark_low x f.1.begins.0) (subst IsUtf8 f.1.begins.1 after)) f.2
tokens_utf8 (text s ∷ ts) bytes u f =
    let q = string_utf8 s f.1.after f.0 f.1.begins (after_space (text s) bytes f.0 f.1 u) in
    (q.0, tokens_utf8 ts f.0 q.1 f.2)
tokens_utf8 (whole n ∷ ts) bytes u f =
    let b = f.1.begins in
    let after = after_space (whole n) bytes f.0 f.1 u in
    tokens_utf8 ts f.0 (past_digits (b.first ∷ b.others) f.0 b.digits (subst IsUtf8 b.spelled after)) f.2
