-- A text stands for one value at most.
use Rattle.std.proofs.Common.{◌≡◌, ◌≢◌, ◌⊎◌, inl, inr, ℕ, ◌+◌, ◌-◌, ◌*◌, ◌<◌, ◌≤◌, List, [], ◌∷◌, ◌++◌, get_or, refl}
use Rattle.std.proofs.Common.{sym, ap, ◌∙◌, subst, arith}
use Rattle.std.specs.Char.{encode_utf8}
use Rattle.miette_json.specs.rules.Json.{Json, number, string, array, object, Items, no_items, item, Members}
use Rattle.miette_json.specs.rules.Json.{no_members, member}
use Rattle.miette_json.specs.rules.Denotes.{Token, structural, text, whole, tokens_then, items_then, more_items_then}
use Rattle.miette_json.specs.rules.Denotes.{members_then, more_members_then, StringPart, plain, short, unit, pair}
use Rattle.miette_json.specs.rules.Denotes.{IsStringPart, hex, string_part_text, part_value, AreStringParts}
use Rattle.miette_json.specs.rules.Denotes.{all_written}
use Rattle.miette_json.specs.rules.Denotes.{all_meant, IsDigit, AreDigits, value_after, NoDigitNext, IsStructural}
use Rattle.miette_json.specs.rules.Denotes.{IsBlank, AreBlank, IsString, IsNumber, BeginsWithToken, Next, AreJsonTokens}
use Rattle.miette_json.specs.rules.Denotes.{HasTokensOf}

-- ---- the tokens of two values

first_mark : (x : ℕ) (w : Json) (ts us : List Token) → structural x ∷ ts ≡ tokens_then w us → (x ≡ 91) ⊎ (x ≡ 123)
first_mark x (number n) ts us e = cc
first_mark x (string s) ts us e = cc
first_mark x (array is) ts us e = inl cc
first_mark x (object ms) ts us e = inr cc

no_first : (x : ℕ) (w : Json) (ts us : List Token) → structural x ∷ ts ≡ tokens_then w us → x ≢ 91 → x ≢ 123 → ⊥
no_first x w ts us e f g = elim (first_mark x w ts us e) [ inl h ↦ f h | inr h ↦ g h ]

marks_differ : (x y : ℕ) (ts us : List Token) → x ≢ y → structural x ∷ ts ≡ structural y ∷ us → ⊥
marks_differ x y ts us ne e = let h : x ≡ y = cc in ne h

mutual
  value_one : (v w : Json) (ts us : List Token) → tokens_then v ts ≡ tokens_then w us → (v ≡ w) × (ts ≡ us)
  value_one (number m) (number n) ts us e = (cc, cc)
  value_one (number m) (string s) ts us e = (cc, cc)
  value_one (number m) (array is) ts us e = (cc, cc)
  value_one (number m) (object ms) ts us e = (cc, cc)
  value_one (string r) (number n) ts us e = (cc, cc)
  value_one (string r) (string s) ts us e = (cc, cc)
  value_one (string r) (array is) ts us e = (cc, cc)
  value_one (string r) (object ms) ts us e = (cc, cc)
  value_one (array is) (number n) ts us e = (cc, cc)
  value_one (array is) (string s) ts us e = (cc, cc)
  value_one (array is) (array js) ts us e =
      let f : items_then is ts ≡ items_then js us = cc in
      let p = items_one is js ts us f in
      (ap array p.0, p.1)
  value_one (array is) (object ms) ts us e = absurd (marks_differ 91 123 _ _ (λ h. omega arith) e)
  value_one (object ms) (number n) ts us e = (cc, cc)
  value_one (object ms) (string s) ts us e = (cc, cc)
  value_one (object ms) (array is) ts us e = absurd (marks_differ 123 91 _ _ (λ h. omega arith) e)
  value_one (object ms) (object ns) ts us e =
      let f : members_then ms ts ≡ members_then ns us = cc in
      let p = members_one ms ns ts us f in
      (ap object p.0, p.1)

  items_one : (is js : Items) (ts us : List Token) → items_then is ts ≡ items_then js us → (is ≡ js) × (ts ≡ us)
  items_one no_items no_items ts us e = (refl, cc)
  items_one no_items (item w more) ts us e = absurd (no_first 93 w _ _ e (λ h. omega arith) (λ h. omega arith))
  items_one (item v more) no_items ts us e = absurd (no_first 93 v _ _ (sym e) (λ h. omega arith) (λ h. omega arith))
  items_one (item v more) (item w others) ts us e =
      let p = value_one v w _ _ e in
      let q = more_items_one more others ts us p.1 in
      let a : v ≡ w = p.0 in
      let b : more ≡ others = q.0 in
      (cc, q.1)

  more_items_one : (is js : Items) (ts us : List Token) → more_items_then is ts ≡ more_items_then js us → (is ≡ js)
      × (ts ≡ us)
  more_items_one no_items no_items ts us e = (refl, cc)
  more_items_one no_items (item w more) ts us e = absurd (marks_differ 93 44 _ _ (λ h. omega arith) e)
  more_items_one (item v more) no_items ts us e = absurd (marks_differ 44 93 _ _ (λ h. omega arith) e)
  more_items_one (item v more) (item w others) ts us e =
      let p = value_one v w (more_items_then more ts) (more_items_then others us) cc in
      let q = more_items_one more others ts us p.1 in
      (λ i. item (p.0 i) (q.0 i), q.1)

  members_one : (ms ns : Members) (ts us : List Token) → members_then ms ts ≡ members_then ns us → (ms ≡ ns) × (ts ≡ us)
  members_one no_members no_members ts us e = (refl, cc)
  members_one no_members (member l w more) ts us e = (cc, cc)
  members_one (member k v more) no_members ts us e = (cc, cc)
  members_one (member k v more) (member l w others) ts us e =
      let key : k ≡ l = cc in
      let p = value_one v w (more_members_then more ts) (more_members_then others us) cc in
      let q = more_members_one more others ts us p.1 in
      (λ i. member (key i) (p.0 i) (q.0 i), q.1)

  more_members_one : (ms ns : Members) (ts us : List Token) → more_members_then ms ts ≡ more_members_then ns us
      → (ms ≡ ns) × (ts ≡ us)
  more_members_one no_members no_members ts us e = (refl, cc)
  more_members_one no_members (member l w more) ts us e = absurd (marks_differ 125 44 _ _ (λ h. omega arith) e)
  more_members_one (member k v more) no_members ts us e = absurd (marks_differ 44 125 _ _ (λ h. omega arith) e)
  more_members_one (member k v more) (member l w others) ts us e =
      let key : k ≡ l = cc in
      let p = value_one v w (more_members_then more ts) (more_members_then others us) cc in
      let q = more_members_one more others ts us p.1 in
      (λ i. member (key i) (p.0 i) (q.0 i), q.1)

-- ---- strings

heads : (a b : ℕ) (xs ys : List ℕ) → a ∷ xs ≡ b ∷ ys → a ≡ b
heads a b xs ys e = cc

heads_differ : (a b : ℕ) (xs ys : List ℕ) → a ≢ b → a ∷ xs ≡ b ∷ ys → ⊥
heads_differ a b xs ys ne e = let h : a ≡ b = cc in ne h

tails : (a b : ℕ) (xs ys : List ℕ) → a ∷ xs ≡ b ∷ ys → xs ≡ ys
tails a b xs ys e = cc

append_both : {a b c d : List ℕ} → a ≡ b → c ≡ d → a ++ c ≡ b ++ d
append_both e f = cc

digit_next : (d : ℕ) (x : List ℕ) → IsDigit d → NoDigitNext (d ∷ x) → ⊥
digit_next d x r (inl h) = let l : 48 ≤ d = r.0 in omega arith
digit_next d x r (inr h) = let l : d ≤ 57 = r.1 in omega arith

no_surrogate : (a b : ℕ) → a ≡ b → (a < 0xd800) ⊎ (0xe000 ≤ a) → 0xd800 ≤ b → b < 0xdc00 → ⊥
no_surrogate a b e (inl h) l m = omega arith
no_surrogate a b e (inr h) l m = omega arith

abbrev hex_of : List ℕ → ℕ
hex_of l = hex (get_or l 0 0) (get_or l 1 0) (get_or l 2 0) (get_or l 3 0)

abbrev bytes_of : List ℕ → List ℕ
bytes_of l = encode_utf8 (hex_of l)

abbrev pair_of : List ℕ → List ℕ
pair_of l =
    encode_utf8 (0x10000 + (hex (get_or l 0 0) (get_or l 1 0) (get_or l 2 0) (get_or l 3 0) - 0xd800) * 1024
    + (hex (get_or l 4 0) (get_or l 5 0) (get_or l 6 0) (get_or l 7 0) - 0xdc00))

abbrev short_byte : ℕ → ℕ
short_byte x = get_or (part_value (short x)) 0 0

letter_u : (l : ℕ) (xs ys : List ℕ) → IsStringPart (short l) → 92 ∷ l ∷ xs ≡ 92 ∷ 117 ∷ ys → ⊥
letter_u l xs ys r e = let h : l ≡ 117 = cc in r (ap short_byte h)

piece_one : (p q : StringPart) (x y : List ℕ) → IsStringPart p → IsStringPart q → string_part_text p x
    ≡ string_part_text q y
    → (part_value p ≡ part_value q) × (x ≡ y)
piece_one (plain b) (plain c) x y r s e = let h : b ≡ c = cc in (ap (λ n. n ∷ []) h, cc)
piece_one (plain b) (short l) x y r s e = let h : b ≡ 92 = cc in absurd (r.2 h)
piece_one (plain b) (unit k l m n) x y r s e = let h : b ≡ 92 = cc in absurd (r.2 h)
piece_one (plain b) (pair k l m n o i j z) x y r s e = let h : b ≡ 92 = cc in absurd (r.2 h)
piece_one (short l) (plain c) x y r s e = let h : c ≡ 92 = cc in absurd (s.2 h)
piece_one (short l) (short m) x y r s e = let h : l ≡ m = cc in (ap (λ n. part_value (short n)) h, cc)
piece_one (short t) (unit k l m n) x y r s e = absurd (letter_u t _ _ r e)
piece_one (short t) (pair k l m n o i j z) x y r s e = absurd (letter_u t _ _ r e)
piece_one (unit a b c d) (plain n) x y r s e = let h : n ≡ 92 = cc in absurd (s.2 h)
piece_one (unit a b c d) (short l) x y r s e = absurd (letter_u l _ _ s (sym e))
piece_one (unit a b c d) (unit k l m n) x y r s e =
    let h : a ∷ b ∷ c ∷ d ∷ [] ≡ k ∷ l ∷ m ∷ n ∷ [] = cc in (ap bytes_of h, cc)
piece_one (unit a b c d) (pair k l m n o i j z) x y r s e =
    let h : a ∷ b ∷ c ∷ d ∷ [] ≡ k ∷ l ∷ m ∷ n ∷ [] = cc in
    let same : hex a b c d ≡ hex k l m n = ap hex_of h in
    absurd (no_surrogate _ _ same r.1 s.2 s.3)
piece_one (pair a b c d i j o z) (plain n) x y r s e = let h : n ≡ 92 = cc in absurd (s.2 h)
piece_one (pair a b c d i j o z) (short l) x y r s e = absurd (letter_u l _ _ s (sym e))
piece_one (pair a b c d i j o z) (unit k l m n) x y r s e =
    let h : k ∷ l ∷ m ∷ n ∷ [] ≡ a ∷ b ∷ c ∷ d ∷ [] = cc in
    let same : hex k l m n ≡ hex a b c d = ap hex_of h in
    absurd (no_surrogate _ _ same s.1 r.2 r.3)
piece_one (pair a b c d i j o z) (pair k l m n i' j' o' z') x y r s e =
    let h : a ∷ b ∷ c ∷ d ∷ i ∷ j ∷ o ∷ z ∷ [] ≡ k ∷ l ∷ m ∷ n ∷ i' ∷ j' ∷ o' ∷ z' ∷ [] = cc in (ap pair_of h, cc)

-- no piece begins with a quote
no_quote : (p : StringPart) (x y : List ℕ) → IsStringPart p → string_part_text p x ≡ 34 ∷ y → ⊥
no_quote (plain b) x y r e = let h : b ≡ 34 = cc in r.1 h
no_quote (short l) x y r e = heads_differ 92 34 _ _ (λ h. omega arith) e
no_quote (unit a b c d) x y r e = heads_differ 92 34 _ _ (λ h. omega arith) e
no_quote (pair a b c d i j o z) x y r e = heads_differ 92 34 _ _ (λ h. omega arith) e

pieces_one : (ps qs : List StringPart) (x y : List ℕ) → AreStringParts ps → AreStringParts qs → all_written ps (34 ∷ x)
    ≡ all_written qs (34 ∷ y) → (all_meant ps ≡ all_meant qs) × (x ≡ y)
pieces_one [] [] x y r s e = (refl, cc)
pieces_one [] (q ∷ qs) x y r s e = absurd (no_quote q _ _ s.0 (sym e))
pieces_one (p ∷ ps) [] x y r s e = absurd (no_quote p _ _ r.0 e)
pieces_one (p ∷ ps) (q ∷ qs) x y r s e =
    let one = piece_one p q _ _ r.0 s.0 e in
    let rest = pieces_one ps qs x y r.1 s.1 one.1 in
    (append_both one.0 rest.0, rest.1)

string_one : (s t : List ℕ) (bytes x y : List ℕ) → IsString s bytes x → IsString t bytes y → (s ≡ t) × (x ≡ y)
string_one s t bytes x y f g =
    let e : all_written f.pieces (34 ∷ x) ≡ all_written g.pieces (34 ∷ y) = tails _ _ _ _ (sym f.spelled ∙ g.spelled) in
    let p = pieces_one f.pieces g.pieces x y f.right g.right e in
    (sym f.means ∙ (p.0 ∙ g.means), p.1)

-- ---- numbers

digits_one : (ds es x y : List ℕ) → AreDigits ds → AreDigits es → NoDigitNext x → NoDigitNext y → ds ++ x ≡ es ++ y
    → (ds ≡ es) × (x ≡ y)
digits_one [] [] x y r s f g e = (refl, e)
digits_one [] (d ∷ es) x y r s f g e = absurd (digit_next d (es ++ y) s.0 (subst NoDigitNext e f))
digits_one (d ∷ ds) [] x y r s f g e = absurd (digit_next d (ds ++ x) r.0 (subst NoDigitNext (sym e) g))
digits_one (c ∷ ds) (d ∷ es) x y r s f g e =
    let h : c ≡ d = heads _ _ _ _ e in
    let p = digits_one ds es x y r.1 s.1 f g (tails _ _ _ _ e) in
    let q : ds ≡ es = p.0 in
    (cc, p.1)

number_one : (m n : ℕ) (bytes x y : List ℕ) → IsNumber m bytes x → IsNumber n bytes y → (m ≡ n) × (x ≡ y)
number_one m n bytes x y f g =
    let p = digits_one (f.first ∷ f.others) (g.first ∷ g.others) x y f.digits g.digits f.ends g.ends
    (sym f.spelled ∙ g.spelled) in
    (sym f.value ∙ (ap (value_after 0) p.0 ∙ g.value), p.1)

-- ---- one token

mark_place : (x : ℕ) → IsStructural x → (x ≡ 44) ⊎ (58 ≤ x)
mark_place x (inl h) = inl h
mark_place x (inr (inl h)) = inr (omega arith)
mark_place x (inr (inr (inl h))) = inr (omega arith)
mark_place x (inr (inr (inr (inl h)))) = inr (omega arith)
mark_place x (inr (inr (inr (inr (inl h))))) = inr (omega arith)
mark_place x (inr (inr (inr (inr (inr h))))) = inr (omega arith)

mark_no_quote : (x : ℕ) → IsStructural x → x ≡ 34 → ⊥
mark_no_quote x m e = elim (mark_place x m) [ inl h ↦ omega arith | inr h ↦ omega arith ]

mark_no_digit : (x d : ℕ) → IsStructural x → IsDigit d → x ≡ d → ⊥
mark_no_digit x d m r e = elim (mark_place x m) [ inl h ↦ omega arith | inr h ↦ omega arith ]

begins_one : (t u : Token) (bytes x y : List ℕ) → BeginsWithToken t bytes x → BeginsWithToken u bytes y → (t ≡ u)
    × (x ≡ y)
begins_one (structural a) (structural b) bytes x y f g = let e : a ∷ x ≡ b ∷ y = sym f.1 ∙ g.1 in (cc, cc)
begins_one (structural a) (text t) bytes x y f g = absurd (mark_no_quote a f.0 (heads _ _ _ _ (sym f.1 ∙ g.spelled)))
begins_one (structural a) (whole n) bytes x y f g = absurd
    (mark_no_digit a g.first f.0 g.digits.0 (heads _ _ _ _ (sym f.1 ∙ g.spelled)))
begins_one (text s) (structural b) bytes x y f g = absurd (mark_no_quote b g.0 (heads _ _ _ _ (sym g.1 ∙ f.spelled)))
begins_one (text s) (text t) bytes x y f g = let p = string_one s t bytes x y f g in (ap text p.0, p.1)
begins_one (text s) (whole n) bytes x y f g = let h : 34 ≡ g.first = heads _ _ _ _ (sym f.spelled ∙ g.spelled) in
    let d : 48 ≤ g.first = g.digits.0.0 in let no : ⊥ = omega arith in absurd no
begins_one (whole m) (structural b) bytes x y f g = absurd
    (mark_no_digit b f.first g.0 f.digits.0 (heads _ _ _ _ (sym g.1 ∙ f.spelled)))
begins_one (whole m) (text t) bytes x y f g = let h : 34 ≡ f.first = heads _ _ _ _ (sym g.spelled ∙ f.spelled) in
    let d : 48 ≤ f.first = f.digits.0.0 in let no : ⊥ = omega arith in absurd no
begins_one (whole m) (whole n) bytes x y f g = let p = number_one m n bytes x y f g in (ap whole p.0, p.1)

-- ---- white space

-- it begins with a byte that is no white space
abbrev Solid : List ℕ → Type 0
Solid [] = ⊥
Solid (c ∷ cs) = 32 < c

begins_solid : (t : Token) (bytes x : List ℕ) → BeginsWithToken t bytes x → Solid bytes
begins_solid (structural a) bytes x f = subst Solid (sym f.1)
    (elim (mark_place a f.0) [ inl h ↦ omega arith | inr h ↦ omega arith ])
begins_solid (text s) bytes x f = subst Solid (sym f.spelled) (omega arith)
begins_solid (whole n) bytes x f = let d : 48 ≤ f.first = f.digits.0.0 in subst Solid (sym f.spelled) (omega arith)

blank_low : (c : ℕ) → IsBlank c → c ≤ 32
blank_low c (inl h) = omega arith
blank_low c (inr (inl h)) = omega arith
blank_low c (inr (inr (inl h))) = omega arith
blank_low c (inr (inr (inr h))) = omega arith

not_solid : (c : ℕ) (cs x : List ℕ) → IsBlank c → x ≡ c ∷ cs → Solid x → ⊥
not_solid c cs x b e s = let h : 32 < c = subst Solid e s in let l = blank_low c b in omega arith

space_one : (a b x y : List ℕ) → AreBlank a → AreBlank b → Solid x → Solid y → a ++ x ≡ b ++ y → x ≡ y
space_one [] [] x y r s f g e = e
space_one [] (c ∷ b) x y r s f g e = absurd (not_solid c _ x s.0 e f)
space_one (c ∷ a) [] x y r s f g e = absurd (not_solid c _ y r.0 (sym e) g)
space_one (c ∷ a) (d ∷ b) x y r s f g e = space_one a b x y r.1 s.1 f g (tails _ _ _ _ e)

all_blank : (a bytes x : List ℕ) → AreBlank bytes → bytes ≡ a ++ x → Solid x → ⊥
all_blank [] [] x r e s = subst Solid (sym e) s
all_blank [] (c ∷ bytes) x r e s = not_solid c bytes x r.0 (sym e) s
all_blank (d ∷ a) [] x r e s = cc
all_blank (d ∷ a) (c ∷ bytes) x r e s = all_blank a bytes x r.1 (tails _ _ _ _ e) s

next_one : (t u : Token) (bytes x y : List ℕ) → Next t bytes x → Next u bytes y → (t ≡ u) × (x ≡ y)
next_one t u bytes x y f g =
    let e = space_one f.space g.space f.after g.after f.blank g.blank (begins_solid t f.after x f.begins)
    (begins_solid u g.after y g.begins) (sym f.spaced ∙ g.spaced) in
    begins_one t u g.after x y (subst (λ l. BeginsWithToken t l x) e f.begins) g.begins

-- bytes are at most one list of tokens
tokens_one : (ts us : List Token) (bytes : List ℕ) → AreJsonTokens ts bytes → AreJsonTokens us bytes → ts ≡ us
tokens_one [] [] bytes f g = refl
tokens_one [] (u ∷ us) bytes f g = absurd (all_blank g.1.space bytes g.1.after f g.1.spaced
    (begins_solid u g.1.after g.0 g.1.begins))
tokens_one (t ∷ ts) [] bytes f g = absurd (all_blank f.1.space bytes f.1.after g f.1.spaced
    (begins_solid t f.1.after f.0 f.1.begins))
tokens_one (t ∷ ts) (u ∷ us) bytes f g =
    let p = next_one t u bytes f.0 g.0 f.1 g.1 in
    let head : t ≡ u = p.0 in
    let rest : ts ≡ us = tokens_one ts us g.0 (subst (AreJsonTokens ts) p.1 f.2) g.2 in
    cc

pub one_value_lem : (bytes : List ℕ) (v w : Json) → HasTokensOf bytes v → HasTokensOf bytes w → v ≡ w
one_value_lem bytes v w f g = (value_one v w [] [] (tokens_one (tokens_then v []) (tokens_then w []) bytes f g)).0
