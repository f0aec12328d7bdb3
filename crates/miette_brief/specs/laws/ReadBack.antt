-- Reads the location back from a line.
use Rattle.std.specs.Prelude.{◌≡◌, ℕ, ◌==◌, nat_le, Bool, not, ◌&&◌, List, [], ◌∷◌, Option, Some, None}
use Rattle.std.specs.Prelude.{if◌then◌else◌}
use Rattle.std.specs.List.{list_all}
use Rattle.std.specs.Str.Parse.{digits_value}
use Rattle.miette_brief.specs.declared.fix_its.LineColumn.{LineColumn}

abbrev pub has_no_colon : List ℕ → Bool
has_no_colon bs = list_all (λ b. not (b == 58)) bs

-- the text before the first colon
abbrev pub before_colon : List ℕ → List ℕ
before_colon [] = []
before_colon (b ∷ bs) = if b == 58 then [] else b ∷ before_colon bs

-- the text after the first colon
abbrev pub after_colon : List ℕ → List ℕ
after_colon [] = []
after_colon (b ∷ bs) = if b == 58 then bs else after_colon bs

-- the number before the first colon
abbrev pub number_before : List ℕ → ℕ
number_before bs = digits_value 10 (before_colon bs)

-- a line and a column, each up to a colon
abbrev pub numbers_in : List ℕ → LineColumn
numbers_in bs = record { line = number_before bs; column = number_before (after_colon bs) }

-- the position after a name's colon, or none if a space follows
abbrev pub position_in : List ℕ → Option LineColumn
position_in [] = None
position_in (b ∷ bs) = if b == 32 then None else Some (numbers_in (b ∷ bs))

abbrev pub is_digit : ℕ → Bool
is_digit b = nat_le 48 b && nat_le b 57

-- the position at the start of a line without a name, or none if no digit comes first
abbrev pub position_first : List ℕ → Option LineColumn
position_first [] = None
position_first (b ∷ bs) = if is_digit b then Some (numbers_in (b ∷ bs)) else None

-- a line begins with this name, up to a colon, and with this position, if any
pub record ReadsBack (name : List ℕ) (position : Option LineColumn) (row : List ℕ) : Type 0 where
  pub name_is : before_colon row ≡ name
  pub position_is : position_in (after_colon row) ≡ position
