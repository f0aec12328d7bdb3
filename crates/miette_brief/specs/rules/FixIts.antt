-- Edits as GCC and clang print them for `-fdiagnostics-parseable-fixits`.
use Rattle.std.specs.Prelude.{ℕ, ◌+◌, ◌/◌, ◌%◌, ◌==◌, nat_le, nat_lt, Bool, ◌&&◌, ◌||◌, List, [], ◌∷◌, ◌++◌, Option}
use Rattle.std.specs.Prelude.{codes, decimal, if◌then◌else◌, unwrap_or}
use Rattle.std.specs.List.{flat_map}
use Rattle.miette_brief.specs.declared.fix_its.LineColumn.{LineColumn}

-- an edit: the name of its source, if any; its range, whose end is exclusive; and its text
pub record FixIt : Type 0 where
  pub name : Option (List ℕ)
  pub start : LineColumn
  pub end : LineColumn
  pub text : List ℕ

-- `\303`: a byte as three octal digits
abbrev pub octal : ℕ → List ℕ
octal b = 92 ∷ (48 + b / 64 % 8) ∷ (48 + b / 8 % 8) ∷ (48 + b % 8) ∷ []

-- whether a byte is printable ASCII
abbrev pub is_printable_ascii : ℕ → Bool
is_printable_ascii b = nat_le 32 b && nat_lt b 127

-- a quote and a backslash are escaped by a backslash; LF and tab are `\n` and `\t`
abbrev pub escaped_byte : ℕ → List ℕ
escaped_byte b =
    if (b == 34) || (b == 92) then 92 ∷ b ∷ []
    else (if b == 10 then 92 ∷ 110 ∷ []
    else (if b == 9 then 92 ∷ 116 ∷ []
    else (if is_printable_ascii b then b ∷ [] else octal b)))

abbrev pub escaped : List ℕ → List ℕ
escaped bytes = flat_map escaped_byte bytes

-- `"a\n"`
abbrev pub in_quotes : List ℕ → List ℕ
in_quotes bytes = codes "\"" ++ (escaped bytes ++ codes "\"")

-- `2:5`
abbrev pub position_text : LineColumn → List ℕ
position_text at = decimal at.line ++ (codes ":" ++ decimal at.column)

-- `{2:5-2:5}`
abbrev pub range_text : LineColumn → LineColumn → List ℕ
range_text start end = codes "{" ++ (position_text start ++ (codes "-" ++ (position_text end ++ codes "}")))

-- `fix-it:"f.py":{2:5-2:5}:":"`; a missing name is empty
abbrev pub fix_it_text : FixIt → List ℕ
fix_it_text it =
    codes "fix-it:" ++ (in_quotes (unwrap_or it.name [])
    ++ (codes ":" ++ (range_text it.start it.end ++ (codes ":" ++ in_quotes it.text))))
