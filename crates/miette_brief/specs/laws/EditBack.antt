-- Reads an edit back from its line.
use Rattle.std.specs.Prelude.{◌≡◌, ℕ, ◌+◌, ◌-◌, ◌*◌, ◌==◌, Bool, false, List, [], ◌∷◌, ◌++◌, drop, unwrap_or}
use Rattle.std.specs.Prelude.{if◌then◌else◌}
use Rattle.std.specs.Str.Parse.{digits_value}
use Rattle.miette_brief.specs.declared.fix_its.LineColumn.{LineColumn}
use Rattle.miette_brief.specs.rules.FixIts.{FixIt}
use Rattle.miette_brief.specs.laws.ReadBack.{is_digit}

-- ---- texts in quotes

-- state of the reader: at a plain byte, after a backslash, or after its first one or two digits
pub data Reading : Type 0 where
  as_it_is : Reading
  escaping : Reading
  one_digit : ℕ → Reading
  two_digits : ℕ → Reading

-- the state after a byte that doesn't end the text
abbrev pub after_byte : Reading → ℕ → Reading
after_byte as_it_is b = if b == 92 then escaping else as_it_is
after_byte escaping b = if is_digit b then one_digit (b - 48) else as_it_is
after_byte (one_digit n) b = two_digits (n * 8 + (b - 48))
after_byte (two_digits n) b = as_it_is

-- the bytes that this byte adds to the text
abbrev pub given_by : Reading → ℕ → List ℕ
given_by as_it_is b = if b == 92 then [] else b ∷ []
given_by escaping b = if is_digit b then [] else (if b == 110 then 10 ∷ [] else (if b == 116 then 9 ∷ [] else b ∷ []))
given_by (one_digit n) b = []
given_by (two_digits n) b = (n * 8 + (b - 48)) ∷ []

-- whether a byte ends the text: a quote, except after a backslash
abbrev pub ends_text : Reading → ℕ → Bool
ends_text as_it_is b = b == 34
ends_text escaping b = false
ends_text (one_digit n) b = false
ends_text (two_digits n) b = false

-- the text up to the closing quote, and what follows that quote
abbrev pub text_to_quote : Reading → List ℕ → List ℕ
text_to_quote at [] = []
text_to_quote at (b ∷ bs) = if ends_text at b then [] else given_by at b ++ text_to_quote (after_byte at b) bs

abbrev pub after_quote : Reading → List ℕ → List ℕ
after_quote at [] = []
after_quote at (b ∷ bs) = if ends_text at b then bs else after_quote (after_byte at b) bs

-- ---- numbers

abbrev pub up_to : ℕ → List ℕ → List ℕ
up_to end [] = []
up_to end (b ∷ bs) = if b == end then [] else b ∷ up_to end bs

abbrev pub after_end : ℕ → List ℕ → List ℕ
after_end end [] = []
after_end end (b ∷ bs) = if b == end then bs else after_end end bs

-- a line up to a colon, and a column up to this byte
abbrev pub position_to : ℕ → List ℕ → LineColumn
position_to end bs = record {
  line = digits_value 10 (up_to 58 bs);
  column = digits_value 10 (up_to end (after_end 58 bs));
}

-- ---- rows

-- the rest after `fix-it:"`
abbrev pub name_onwards : List ℕ → List ℕ
name_onwards row = drop 8 row

-- the rest after the name and `":{`
abbrev pub start_onwards : List ℕ → List ℕ
start_onwards row = drop 2 (after_quote as_it_is (name_onwards row))

-- the rest after `-`
abbrev pub end_onwards : List ℕ → List ℕ
end_onwards row = after_end 45 (start_onwards row)

-- the rest after `}:"`
abbrev pub text_onwards : List ℕ → List ℕ
text_onwards row = drop 2 (after_end 125 (end_onwards row))

-- a line has the edit's name, range and text
pub record ReadsEdit (it : FixIt) (row : List ℕ) : Type 0 where
  pub name_is : text_to_quote as_it_is (name_onwards row) ≡ unwrap_or it.name []
  pub start_is : position_to 45 (start_onwards row) ≡ it.start
  pub end_is : position_to 125 (end_onwards row) ≡ it.end
  pub text_is : text_to_quote as_it_is (text_onwards row) ≡ it.text
