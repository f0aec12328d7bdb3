-- RFC 8259 as a relation between bytes and values. A text represents a value if it is UTF-8 and consists of the value's
-- tokens, with white space before, between and after them.
use Rattle.std.specs.Prelude.{IsUtf8, ◌≡◌, ◌⊎◌, ◌≢◌, ℕ, ◌+◌, ◌-◌, ◌*◌, ◌<◌, ◌≤◌, List, [], ◌∷◌, ◌++◌, ⊤, cond, ◌||◌}
use Rattle.std.specs.Prelude.{◌==◌}
use Rattle.std.specs.Char.{digit_value, encode_utf8}
use Rattle.miette_json.specs.rules.Json.{Json, number, string, array, object, Items, no_items, item, Members}
use Rattle.miette_json.specs.rules.Json.{no_members, member}

pub data Token : Type 0 where
  structural : ℕ → Token
  text : List ℕ → Token
  whole : ℕ → Token

-- the tokens of a value, followed by the given tokens
abbrev mutual
  pub tokens_then : Json → List Token → List Token
  tokens_then (number n) ts = whole n ∷ ts
  tokens_then (string s) ts = text s ∷ ts
  tokens_then (array is) ts = structural 91 ∷ items_then is ts
  tokens_then (object ms) ts = structural 123 ∷ members_then ms ts

  pub items_then : Items → List Token → List Token
  items_then no_items ts = structural 93 ∷ ts
  items_then (item v more) ts = tokens_then v (more_items_then more ts)

  pub more_items_then : Items → List Token → List Token
  more_items_then no_items ts = structural 93 ∷ ts
  more_items_then (item v more) ts = structural 44 ∷ tokens_then v (more_items_then more ts)

  pub members_then : Members → List Token → List Token
  members_then no_members ts = structural 125 ∷ ts
  members_then (member k v more) ts = text k ∷ structural 58 ∷ tokens_then v (more_members_then more ts)

  pub more_members_then : Members → List Token → List Token
  more_members_then no_members ts = structural 125 ∷ ts
  more_members_then (member k v more) ts =
      structural 44 ∷ text k ∷ structural 58 ∷ tokens_then v (more_members_then more ts)

-- ---- the characters of a string

-- a plain byte; `\` and a letter; `\u` and four hex digits; two of these, a surrogate pair
pub data StringPart : Type 0 where
  plain : ℕ → StringPart
  short : ℕ → StringPart
  unit : (a b c d : ℕ) → StringPart
  pair : (a b c d e f g h : ℕ) → StringPart

-- the character that `\` and this letter represent, or 0 if there is no such escape
abbrev pub short_for : ℕ → ℕ
short_for x =
    cond ((x == 34) || ((x == 92) || (x == 47))) x
    (cond (x == 98) 8 (cond (x == 102) 12 (cond (x == 110) 10 (cond (x == 114) 13 (cond (x == 116) 9 0)))))

-- a hexadecimal digit in either case
abbrev pub IsHex : ℕ → Type 0
IsHex x = digit_value x < 16

abbrev pub hex : ℕ → ℕ → ℕ → ℕ → ℕ
hex a b c d = digit_value a * 4096 + digit_value b * 256 + digit_value c * 16 + digit_value d

abbrev pub AreHex : ℕ → ℕ → ℕ → ℕ → Type 0
AreHex a b c d = IsHex a × IsHex b × IsHex c × IsHex d

abbrev pub IsStringPart : StringPart → Type 0
IsStringPart (plain x) = (32 ≤ x) × (x ≢ 34) × (x ≢ 92)
IsStringPart (short letter) = short_for letter ≢ 0
IsStringPart (unit a b c d) = AreHex a b c d × ((hex a b c d < 0xd800) ⊎ (0xe000 ≤ hex a b c d))
IsStringPart (pair a b c d e f g h) =
    AreHex a b c d × AreHex e f g h × (0xd800 ≤ hex a b c d) × (hex a b c d < 0xdc00) × (0xdc00 ≤ hex e f g h)
    × (hex e f g h < 0xe000)

-- a part as written, followed by the given bytes
abbrev pub string_part_text : StringPart → List ℕ → List ℕ
string_part_text (plain x) rest = x ∷ rest
string_part_text (short letter) rest = 92 ∷ letter ∷ rest
string_part_text (unit a b c d) rest = 92 ∷ 117 ∷ a ∷ b ∷ c ∷ d ∷ rest
string_part_text (pair a b c d e f g h) rest = 92 ∷ 117 ∷ a ∷ b ∷ c ∷ d ∷ 92 ∷ 117 ∷ e ∷ f ∷ g ∷ h ∷ rest

-- the bytes that a part represents
abbrev pub part_value : StringPart → List ℕ
part_value (plain x) = x ∷ []
part_value (short letter) = short_for letter ∷ []
part_value (unit a b c d) = encode_utf8 (hex a b c d)
part_value (pair a b c d e f g h) = encode_utf8 (0x10000 + (hex a b c d - 0xd800) * 1024 + (hex e f g h - 0xdc00))

abbrev pub AreStringParts : List StringPart → Type 0
AreStringParts [] = ⊤
AreStringParts (p ∷ ps) = IsStringPart p × AreStringParts ps

abbrev pub all_written : List StringPart → List ℕ → List ℕ
all_written [] rest = rest
all_written (p ∷ ps) rest = string_part_text p (all_written ps rest)

abbrev pub all_meant : List StringPart → List ℕ
all_meant [] = []
all_meant (p ∷ ps) = part_value p ++ all_meant ps

-- ---- numbers

abbrev pub IsDigit : ℕ → Type 0
IsDigit x = (48 ≤ x) × (x ≤ 57)

abbrev pub AreDigits : List ℕ → Type 0
AreDigits [] = ⊤
AreDigits (x ∷ xs) = IsDigit x × AreDigits xs

-- the number that n becomes when digits are appended to it
abbrev pub value_after : ℕ → List ℕ → ℕ
value_after n [] = n
value_after n (x ∷ xs) = value_after (n * 10 + (x - 48)) xs

-- no leading zero, except for the number zero
abbrev pub NoLeadingZero : List ℕ → Type 0
NoLeadingZero [] = ⊤
NoLeadingZero (x ∷ []) = ⊤
NoLeadingZero (x ∷ y ∷ xs) = 48 < x

-- the next byte is no digit
abbrev pub NoDigitNext : List ℕ → Type 0
NoDigitNext [] = ⊤
NoDigitNext (x ∷ xs) = (x < 48) ⊎ (57 < x)

-- ---- tokens

-- a structural character: `,` `:` `[` `]` `{` or `}`
abbrev pub IsStructural : ℕ → Type 0
IsStructural x = (x ≡ 44) ⊎ ((x ≡ 58) ⊎ ((x ≡ 91) ⊎ ((x ≡ 93) ⊎ ((x ≡ 123) ⊎ (x ≡ 125)))))

abbrev pub IsBlank : ℕ → Type 0
IsBlank x = (x ≡ 32) ⊎ ((x ≡ 9) ⊎ ((x ≡ 10) ⊎ (x ≡ 13)))

abbrev pub AreBlank : List ℕ → Type 0
AreBlank [] = ⊤
AreBlank (x ∷ xs) = IsBlank x × AreBlank xs

pub record IsString (s : List ℕ) (bytes rest : List ℕ) : Type 0 where
  pub pieces : List StringPart
  pub right : AreStringParts pieces
  pub spelled : bytes ≡ 34 ∷ all_written pieces (34 ∷ rest)
  pub means : all_meant pieces ≡ s

pub record IsNumber (n : ℕ) (bytes rest : List ℕ) : Type 0 where
  pub first : ℕ
  pub others : List ℕ
  pub digits : AreDigits (first ∷ others)
  pub no_zero : NoLeadingZero (first ∷ others)
  pub value : value_after 0 (first ∷ others) ≡ n
  pub spelled : bytes ≡ first ∷ (others ++ rest)
  pub ends : NoDigitNext rest

-- the bytes begin with the token; the rest follows
abbrev pub BeginsWithToken : Token → List ℕ → List ℕ → Type 0
BeginsWithToken (structural x) bytes rest = IsStructural x × (bytes ≡ x ∷ rest)
BeginsWithToken (text s) bytes rest = IsString s bytes rest
BeginsWithToken (whole n) bytes rest = IsNumber n bytes rest

-- white space, then the token, then the rest
pub record Next (t : Token) (bytes rest : List ℕ) : Type 0 where
  pub space : List ℕ
  pub blank : AreBlank space
  pub after : List ℕ
  pub spaced : bytes ≡ space ++ after
  pub begins : BeginsWithToken t after rest

-- the bytes consist of these tokens
abbrev pub AreJsonTokens : List Token → List ℕ → Type 0
AreJsonTokens [] bytes = AreBlank bytes
AreJsonTokens (t ∷ ts) bytes = (rest : List ℕ) × Next t bytes rest × AreJsonTokens ts rest

-- the text consists of the tokens of the value, byte by byte
abbrev pub HasTokensOf : List ℕ → Json → Type 0
HasTokensOf bytes v = AreJsonTokens (tokens_then v []) bytes

-- the text represents the value: it is UTF-8, and its tokens are those of the value
abbrev pub Denotes : List ℕ → Json → Type 0
Denotes bytes v = IsUtf8 bytes × HasTokensOf bytes v
