-- JSON values over whole numbers, strings, lists and objects, and the one text that is written for each.
use Rattle.std.specs.Prelude.{ℕ, zero, suc, ◌+◌, ◌/◌, ◌%◌, nat_lt, cond, List, [], ◌∷◌, ◌++◌}
use Rattle.json.specs.Print.{escape_byte}

mutual
  pub data Json : Type 0 where
    number : ℕ → Json
    string : List ℕ → Json
    array : Items → Json
    object : Members → Json

  pub data Items : Type 0 where
    no_items : Items
    item : Json → Items → Items

  -- a key, its value and the members after it; a key may occur twice
  pub data Members : Type 0 where
    no_members : Members
    member : List ℕ → Json → Members → Members

-- the decimal digits of n; the first number is an upper limit for how many
abbrev pub digits_within : ℕ → ℕ → List ℕ
digits_within zero n = []
digits_within (suc most) n = cond (nat_lt n 10) ((48 + n) ∷ []) (digits_within most (n / 10) ++ (48 + n % 10) ∷ [])

-- the decimal digits of a number of any size; the kit's `decimal` gives at most 64
unfoldable pub numeral : ℕ → List ℕ
numeral n = digits_within (suc n) n

-- each byte of a string as written: its short escape, \u00 and two hexadecimal digits, or the byte itself
abbrev pub escaped_text : List ℕ → List ℕ
escaped_text [] = []
escaped_text (x ∷ xs) = escape_byte x ++ escaped_text xs

-- a string in quotes
abbrev pub quoted_text : List ℕ → List ℕ
quoted_text s = 34 ∷ (escaped_text s ++ 34 ∷ [])

-- the text of a value: `,` between items and members, `: ` after each key, no other space
abbrev mutual
  pub json_text : Json → List ℕ
  json_text (number n) = numeral n
  json_text (string s) = quoted_text s
  json_text (array is) = 91 ∷ items_text is
  json_text (object ms) = 123 ∷ members_text ms

  pub items_text : Items → List ℕ
  items_text no_items = 93 ∷ []
  items_text (item v more) = json_text v ++ more_items_text more

  pub more_items_text : Items → List ℕ
  more_items_text no_items = 93 ∷ []
  more_items_text (item v more) = 44 ∷ (json_text v ++ more_items_text more)

  pub members_text : Members → List ℕ
  members_text no_members = 125 ∷ []
  members_text (member k v more) = quoted_text k ++ (58 ∷ 32 ∷ (json_text v ++ more_members_text more))

  pub more_members_text : Members → List ℕ
  more_members_text no_members = 125 ∷ []
  more_members_text (member k v more) = 44 ∷ (quoted_text k ++ (58 ∷ 32 ∷ (json_text v ++ more_members_text more)))
