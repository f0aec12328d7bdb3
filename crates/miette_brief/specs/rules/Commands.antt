-- GitHub workflow commands as data, and their text.
use Rattle.std.specs.Prelude.{ℕ, ◌+◌, ◌/◌, ◌%◌, ◌==◌, nat_lt, max, Bool, true, false, ◌||◌, List, [], ◌∷◌, ◌++◌, Option}
use Rattle.std.specs.Prelude.{Some}
use Rattle.std.specs.Prelude.{None, codes, decimal, if◌then◌else◌}
use Rattle.std.specs.List.{flat_map}
use Rattle.miette_protocol.specs.declared.protocol.Severity.{Severity}
use Rattle.miette_protocol.specs.declared.protocol.Severity.TheVariants.{Advice, Warning, Error}
use Rattle.miette_positions.specs.declared.position.Region.{Region}
use Rattle.miette_brief.specs.declared.escapes.CommandPart.{CommandPart}
use Rattle.miette_brief.specs.declared.escapes.CommandPart.TheVariants.{Message, Property as InProperty}

-- ---- a command

-- the file that a command names, and the region in it, if one is given
pub record FileLocation : Type 0 where
  pub file : List ℕ
  pub region : Option Region

-- a row of a message below the first: its title and its text
pub record MessageRow : Type 0 where
  pub title : List ℕ
  pub text : List ℕ

-- severity, file location, title, first row of the message, and the rows below
pub record Command : Type 0 where
  pub severity : Option Severity
  pub site : Option FileLocation
  pub title : Option (List ℕ)
  pub message : List ℕ
  pub message_rows : List MessageRow

-- ---- properties

pub record Property : Type 0 where
  pub key : List ℕ
  pub value : List ℕ

-- the columns of a region on one line, from 1: the first and the last column; the last is at least the first
abbrev pub one_line_columns : Region → List Property
one_line_columns r =
    record { key = codes "col"; value = decimal (r.start.column + 1) }
    ∷ record { key = codes "endColumn"; value = decimal (max (r.start.column + 1) r.end.column) } ∷ []

-- no columns for a region on several lines
abbrev pub columns_if : Bool → Region → List Property
columns_if true r = one_line_columns r
columns_if false r = []

abbrev pub columns : Region → List Property
columns r = columns_if (r.start.line == r.end.line) r

-- the lines of a region, from 1, and its columns
abbrev pub region_properties : Option Region → List Property
region_properties None = []
region_properties (Some r) =
    record { key = codes "line"; value = decimal (r.start.line + 1) }
    ∷ record { key = codes "endLine"; value = decimal (r.end.line + 1) } ∷ columns r

abbrev pub file_properties : Option FileLocation → List Property
file_properties None = []
file_properties (Some site) = record { key = codes "file"; value = site.file } ∷ region_properties site.region

abbrev pub title_properties : Option (List ℕ) → List Property
title_properties None = []
title_properties (Some title) = record { key = codes "title"; value = title } ∷ []

abbrev pub properties : Command → List Property
properties c = file_properties c.site ++ title_properties c.title

-- ---- escapes

-- `%`, CR and LF
abbrev pub is_escaped_everywhere : ℕ → Bool
is_escaped_everywhere b = (b == 37) || ((b == 13) || (b == 10))

-- the bytes that are escaped: `%`, CR and LF everywhere, and `:` and `,` in properties
abbrev pub is_percent_escaped : CommandPart → ℕ → Bool
is_percent_escaped Message b = is_escaped_everywhere b
is_percent_escaped InProperty b = is_escaped_everywhere b || ((b == 58) || (b == 44))

-- a hexadecimal digit in upper case
abbrev pub hex_digit : ℕ → ℕ
hex_digit n = if nat_lt n 10 then 48 + n else 55 + n

-- `%0A`
abbrev pub percent : ℕ → List ℕ
percent b = 37 ∷ hex_digit (b / 16) ∷ hex_digit (b % 16) ∷ []

abbrev pub byte_text : CommandPart → ℕ → List ℕ
byte_text part b = if is_percent_escaped part b then percent b else b ∷ []

abbrev pub escaped : CommandPart → List ℕ → List ℕ
escaped part text = flat_map (byte_text part) text

-- ---- spelling

-- `file=bad_file.rs`
abbrev pub property_text : Property → List ℕ
property_text p = p.key ++ (codes "=" ++ escaped InProperty p.value)

abbrev pub further_property : Property → List ℕ
further_property p = codes "," ++ property_text p

-- ` file=bad_file.rs,line=2`
abbrev pub properties_text : List Property → List ℕ
properties_text [] = []
properties_text (p ∷ ps) = codes " " ++ (property_text p ++ flat_map further_property ps)

-- `error` without a severity
abbrev pub command_name : Option Severity → List ℕ
command_name None = codes "error"
command_name (Some Error) = codes "error"
command_name (Some Warning) = codes "warning"
command_name (Some Advice) = codes "notice"

-- `%0Ahelp: try it`
abbrev pub message_row_text : MessageRow → List ℕ
message_row_text it = codes "%0A" ++ (escaped Message it.title ++ escaped Message it.text)

abbrev pub message_rows_text : List MessageRow → List ℕ
message_rows_text its = flat_map message_row_text its

-- `::error file=bad_file.rs,line=2::oops!%0Ahelp: try it`
abbrev pub command_text : Command → List ℕ
command_text c =
    codes "::" ++ (command_name c.severity ++ (properties_text (properties c)
    ++ (codes "::" ++ (escaped Message c.message ++ message_rows_text c.message_rows))))

-- commands, each ended by a line feed
abbrev pub commands_text : List Command → List ℕ
commands_text [] = []
commands_text (c ∷ cs) = command_text c ++ (10 ∷ commands_text cs)
