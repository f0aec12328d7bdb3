-- The lines of a brief report as data, and their text.
use Rattle.std.specs.Prelude.{ℕ, List, [], ◌∷◌, ◌++◌, Option, Some, None, Bool, true, false, if◌then◌else◌}
use Rattle.std.specs.Prelude.{codes, encode_utf8_all}
use Rattle.std.specs.Char.{is_control}
use Rattle.std.specs.Str.{chars}
use Rattle.miette_protocol.specs.declared.protocol.Severity.{Severity}
use Rattle.miette_tree.specs.rules.DiagnosticParts.{severity_text}
use Rattle.miette_brief.specs.declared.fix_its.LineColumn.{LineColumn}
use Rattle.miette_brief.specs.rules.FixIts.{FixIt, position_text, fix_it_text}

-- ---- rows

-- the name of a source and a position in it, each if known
pub record BriefLocation : Type 0 where
  pub name : Option (List ℕ)
  pub position : Option LineColumn

-- a location without name and position
abbrev pub no_location : BriefLocation
no_location = record { name = None; position = None }

-- the kind of a line: a diagnostic with severity and code, a label, a cause, help, a fix, or the reason why a fix can't
-- be applied
pub data RowKind : Type 0 where
  finding : Option Severity → Option (List ℕ) → RowKind
  note : RowKind
  cause : RowKind
  help : RowKind
  fix : RowKind
  failure : RowKind

pub record TextRow : Type 0 where
  pub place : BriefLocation
  pub kind : RowKind
  pub text : List ℕ

-- a line for a reader, or an edit's line, which editors apply
pub data ReportRow : Type 0 where
  told : TextRow → ReportRow
  applied : FixIt → ReportRow

-- ---- spelling

-- a control character as printed: a space at the start of a run, nothing within it
abbrev pub gap : Bool → List ℕ
gap true = []
gap false = 32 ∷ []

-- a character as printed; the flag says whether it follows a control character
abbrev pub shown_for : Bool → ℕ → List ℕ
shown_for goes_on c = if is_control c then gap goes_on else c ∷ []

-- characters with one space in place of each run of control characters, line terminators included
abbrev pub spaced_text : Bool → List ℕ → List ℕ
spaced_text goes_on [] = []
spaced_text goes_on (c ∷ cs) = shown_for goes_on c ++ spaced_text (is_control c) cs

-- a text on one line
abbrev pub one_line_text : List ℕ → List ℕ
one_line_text text = encode_utf8_all (spaced_text false (chars text))

-- `:2:3`
abbrev pub position_after_colon : Option LineColumn → List ℕ
position_after_colon None = []
position_after_colon (Some at) = codes ":" ++ position_text at

-- `bad_file.rs:2:3: `; a missing part is left out with its colon
abbrev pub location_text : Option (List ℕ) → Option LineColumn → List ℕ
location_text None None = []
location_text None (Some at) = position_text at ++ codes ": "
location_text (Some name) position = one_line_text name ++ (position_after_colon position ++ codes ": ")

-- `[oops::my::bad]`
abbrev pub code_text : Option (List ℕ) → List ℕ
code_text None = []
code_text (Some code) = codes "[" ++ (one_line_text code ++ codes "]")

-- `error[oops::my::bad]: `
abbrev pub kind_text : RowKind → List ℕ
kind_text (finding severity code) = severity_text severity ++ (code_text code ++ codes ": ")
kind_text note = codes "note: "
kind_text cause = codes "note: caused by: "
kind_text help = codes "help: "
kind_text fix = codes "fix: "
kind_text failure = codes "note: failed to apply fix: "

-- a line without its line feed
abbrev pub text_row_text : TextRow → List ℕ
text_row_text row = location_text row.place.name row.place.position ++ (kind_text row.kind ++ one_line_text row.text)

abbrev pub row_text : ReportRow → List ℕ
row_text (told row) = text_row_text row
row_text (applied row) = fix_it_text row

-- lines, each ended by a line feed
abbrev pub brief_rows_text : List ReportRow → List ℕ
brief_rows_text [] = []
brief_rows_text (row ∷ rows) = row_text row ++ (10 ∷ brief_rows_text rows)
