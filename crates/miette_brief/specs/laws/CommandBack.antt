-- Reads a command back from its line, as GitHub's runner does.
use Rattle.std.specs.Prelude.{◌≡◌, ℕ, ◌+◌, ◌-◌, ◌*◌, ◌==◌, nat_lt, Bool, not, true, ◌&&◌, List, [], ◌∷◌, ◌++◌, drop}
use Rattle.std.specs.Prelude.{map, codes, if◌then◌else◌, ⊤}
use Rattle.std.specs.List.{flat_map, list_all}
use Rattle.miette_tree.specs.rules.Tree.{Tree, tree, Trees, no_trees, more_trees}
use Rattle.miette_brief.specs.laws.EditBack.{up_to, after_end}
use Rattle.miette_brief.specs.laws.Parts.{text_of_rows}
use Rattle.miette_brief.specs.rules.Commands.{Command, Property, MessageRow, command_name, properties}

-- ---- escapes

-- state of the reader: at a plain byte, after `%`, or after the first digit
pub data Decoding : Type 0 where
  as_it_is : Decoding
  escape : Decoding
  digit : ℕ → Decoding

abbrev pub hex_value : ℕ → ℕ
hex_value b = if nat_lt b 58 then b - 48 else b - 55

-- the text with each `%` and its two digits replaced by the byte
abbrev pub decoded : Decoding → List ℕ → List ℕ
decoded at [] = []
decoded as_it_is (b ∷ bs) = if b == 37 then decoded escape bs else b ∷ decoded as_it_is bs
decoded escape (b ∷ bs) = decoded (digit (hex_value b)) bs
decoded (digit n) (b ∷ bs) = (n * 16 + hex_value b) ∷ decoded as_it_is bs

-- ---- properties

abbrev pub onto_first : ℕ → List (List ℕ) → List (List ℕ)
onto_first b [] = []
onto_first b (piece ∷ pieces) = (b ∷ piece) ∷ pieces

-- the pieces between commas
abbrev pub pieces_of : List ℕ → List (List ℕ)
pieces_of [] = [] ∷ []
pieces_of (b ∷ bs) = if b == 44 then [] ∷ pieces_of bs else onto_first b (pieces_of bs)

-- a key up to `=`, and the value after it
abbrev pub property_of : List ℕ → Property
property_of piece = record { key = up_to 61 piece; value = decoded as_it_is (after_end 61 piece) }

-- the properties after a space
abbrev pub properties_after : List ℕ → List Property
properties_after [] = []
properties_after (b ∷ bs) = map property_of (pieces_of (b ∷ bs))

-- ---- rows

-- the text between `::` and the next colon: name and properties
abbrev pub head_in : List ℕ → List ℕ
head_in row = up_to 58 (drop 2 row)

-- the text after the second `::`
abbrev pub body_in : List ℕ → List ℕ
body_in row = drop 1 (after_end 58 (drop 2 row))

-- the texts of a message, joined by LF
abbrev pub message_row_bytes : MessageRow → List ℕ
message_row_bytes it = 10 ∷ (it.title ++ it.text)

abbrev pub message_in : Command → List ℕ
message_in c = c.message ++ flat_map message_row_bytes c.message_rows

-- whether a text has neither LF nor CR
abbrev pub is_one_line : List ℕ → Bool
is_one_line row = list_all (λ b. not (b == 10) && not (b == 13)) row

-- A line has the command's name, properties and message, and is one line.
pub record ReadsCommand (c : Command) (row : List ℕ) : Type 0 where
  pub begins : row ≡ codes "::" ++ drop 2 row
  pub name_is : up_to 32 (head_in row) ≡ command_name c.severity
  pub properties_are : properties_after (after_end 32 (head_in row)) ≡ properties c
  pub message_is : decoded as_it_is (body_in row) ≡ message_in c
  pub line : is_one_line row ≡ true

-- ---- reports

-- the number of diagnostics: the report and each related one
abbrev mutual
  pub diagnostics_in : Tree → ℕ
  diagnostics_in (tree m own c r) = 1 + all_diagnostics_in r

  pub all_diagnostics_in : Trees → ℕ
  all_diagnostics_in no_trees = 0
  all_diagnostics_in (more_trees t ts) = diagnostics_in t + all_diagnostics_in ts

-- the lines are those of the commands, in order
abbrev pub AreCommandRows : List Command → List (List ℕ) → Type 0
AreCommandRows [] [] = ⊤
AreCommandRows (c ∷ cs) (row ∷ rows) = ReadsCommand c row × AreCommandRows cs rows
AreCommandRows _ _ = ⊥

-- A text has one line for each command. Each ends with a line feed.
pub record AreCommands (commands : List Command) (text : List ℕ) : Type 0 where
  pub rows : List (List ℕ)
  pub are : text ≡ text_of_rows rows
  pub read : AreCommandRows commands rows
