-- Diagnostics of the Language Server Protocol (3.17), one for each finding.
use Rattle.std.specs.Prelude.{ℕ, List, [], ◌∷◌, ◌++◌, map, codes, Bool, false, if◌then◌else◌, Option, Some, None}
use Rattle.std.specs.Str.{bytes_eq}
use Rattle.miette_lines.specs.rules.Lists.{is_nil}
use Rattle.miette_fixes.specs.rules.Texts.{applicability_name}
use Rattle.miette_json.specs.rules.Json.{Json, number, string}
use Rattle.miette_positions.specs.declared.position.Position.{Position}
use Rattle.miette_positions.specs.declared.position.Stretch.{Stretch}
use Rattle.miette_sarif.specs.rules.Artifacts.{uri_of}
use Rattle.miette_sarif.specs.rules.Findings.{SarifRegion, Finding, SarifLocation, PhysicalLocation, ApplicableFix}
use Rattle.miette_sarif.specs.rules.Findings.{ReplacementValue}
use Rattle.miette_sarif.specs.rules.Objects.{Pairs, array_of, listed, object_of, pair}
use Rattle.miette_sarif.specs.rules.Results.{first_values}
use Rattle.miette_sarif.specs.rules.Uris.{address_uri, is_absolute_uri}

-- ---- places

-- `{"line": 1,"character": 2}`: both count from 0; a character is a UTF-16 code unit
abbrev pub lsp_position_value : Position → Json
lsp_position_value p = object_of (pair (codes "line") (number p.line) ++ pair (codes "character") (number p.column))

abbrev pub lsp_range_value : Position → Position → Json
lsp_range_value start end =
    object_of (pair (codes "start") (lsp_position_value start) ++ pair (codes "end") (lsp_position_value end))

abbrev pub stretch_range : Stretch → Json
stretch_range s = lsp_range_value s.start.position s.end.position

abbrev pub origin : Position
origin = record { line = 0; column = 0 }

-- the range of a region; if it is unknown, the empty range at the beginning
abbrev pub area_range : Option SarifRegion → Json
area_range None = lsp_range_value origin origin
area_range (Some area) = stretch_range area.stretch

abbrev pub place_area : Option PhysicalLocation → Option SarifRegion
place_area None = None
place_area (Some p) = p.area

-- the region of the primary label
abbrev pub primary_area : Option SarifLocation → Option SarifRegion
primary_area None = None
primary_area (Some m) = place_area m.place

-- ---- what is written for a finding

-- 1 for errors, 2 for warnings, 3 for advice, by the level of a SARIF result
abbrev pub severity : List ℕ → ℕ
severity level = if bytes_eq level (codes "warning") then 2 else (if bytes_eq level (codes "note") then 3 else 1)

abbrev pub href : List ℕ → Pairs
href url = pair (codes "codeDescription") (object_of (pair (codes "href") (string (address_uri url))))

-- the address of a code, if it is absolute
abbrev pub href_pairs : Option (List ℕ) → Pairs
href_pairs None = []
href_pairs (Some url) = if is_absolute_uri url then href url else []

-- a code with its address, unless the code is empty
abbrev pub code_pairs : List ℕ → Option (List ℕ) → Pairs
code_pairs code url = if is_nil code then [] else pair (codes "code") (string code) ++ href_pairs url

-- ---- its message

abbrev pub row : List ℕ → List ℕ → List ℕ
row title text = 10 ∷ (title ++ text)

abbrev pub rows : List ℕ → List (List ℕ) → List ℕ
rows title [] = []
rows title (text ∷ texts) = row title text ++ rows title texts

abbrev pub maybe_row : List ℕ → Option (List ℕ) → List ℕ
maybe_row title None = []
maybe_row title (Some text) = row title text

-- a label's text, unless it is empty
abbrev pub label_text_row : List ℕ → List ℕ
label_text_row text = if is_nil text then [] else row [] text

abbrev pub primary_row : Option SarifLocation → List ℕ
primary_row None = []
primary_row (Some m) = label_text_row m.text

-- whether a url is the address of a code
abbrev pub is_href : List ℕ → List ℕ → Bool
is_href code url = if is_nil code then false else is_absolute_uri url

abbrev pub see_row : List ℕ → Option (List ℕ) → List ℕ
see_row code None = []
see_row code (Some url) = if is_href code url then [] else row (codes "see: ") url

-- the lines of a message: text, primary label's text, causes, help, fixes that can't be applied, and url
abbrev pub diagnostic_message_text : Finding → List ℕ
diagnostic_message_text f = f.message ++ (primary_row f.primary ++ (rows (codes "caused by: ") f.causes
    ++ (maybe_row (codes "help: ") f.help ++ (rows (codes "fix: ") f.unapplied ++ see_row f.code f.url))))

-- ---- other labels that have a place and a text

abbrev pub location_value : List ℕ → Option SarifRegion → Json
location_value uri area = object_of (pair (codes "uri") (string uri) ++ pair (codes "range") (area_range area))

abbrev pub related_value : List ℕ → Option SarifRegion → List ℕ → Json
related_value uri area text =
    object_of (pair (codes "location") (location_value uri area) ++ pair (codes "message") (string text))

-- a text at a location; sources without a name are numbered from `untitled:1` in this order
abbrev pub related_text_at : List ℕ → Option PhysicalLocation → List ℕ → List Json
related_text_at untitled None text = []
related_text_at untitled (Some p) text = related_value (uri_of untitled p.source) p.area text ∷ []

abbrev pub related_at : List ℕ → SarifLocation → List Json
related_at untitled m = if is_nil m.text then [] else related_text_at untitled m.place m.text

abbrev pub related_values_of : List ℕ → List SarifLocation → List Json
related_values_of untitled [] = []
related_values_of untitled (m ∷ ms) = related_at untitled m ++ related_values_of untitled ms

-- ---- fixes that can be applied

-- `{"range": {..},"newText": "1"}`
abbrev pub text_edit : ReplacementValue → Json
text_edit it = object_of (pair (codes "range") (stretch_range it.deleted) ++ pair (codes "newText") (string it.text))

-- the title of a fix, and its applicability
abbrev pub fix_head : ApplicableFix → Pairs
fix_head fix = pair (codes "title") (string fix.message)
    ++ pair (codes "applicability") (string (applicability_name fix.applicability))

-- its source and its edits
abbrev pub fix_tail : List ℕ → ApplicableFix → Pairs
fix_tail untitled fix = pair (codes "uri") (string (uri_of untitled fix.source))
    ++ pair (codes "edits") (array_of (map text_edit fix.replacements))

abbrev pub lsp_fix_value : List ℕ → ApplicableFix → Json
lsp_fix_value untitled fix = object_of (fix_head fix ++ fix_tail untitled fix)

-- the fixes without duplicates
abbrev pub lsp_fix_values : List ℕ → List ApplicableFix → List Json
lsp_fix_values untitled fixes = first_values [] (map (lsp_fix_value untitled) fixes)

-- `"data": {"fixes": [..]}`, or nothing without fixes
abbrev pub data_pairs : List Json → Pairs
data_pairs [] = []
data_pairs (v ∷ vs) = pair (codes "data") (object_of (pair (codes "fixes") (array_of (v ∷ vs))))

-- ---- the diagnostic

-- range, severity and code
abbrev pub diagnostic_head_pairs : Finding → Pairs
diagnostic_head_pairs f = pair (codes "range") (area_range (primary_area f.primary))
    ++ (pair (codes "severity") (number (severity f.level)) ++ code_pairs f.code f.url)

-- the tool's name, and the message
abbrev pub message_pairs : List ℕ → Finding → Pairs
message_pairs tool f = pair (codes "source") (string tool) ++ pair (codes "message")
    (string (diagnostic_message_text f))

-- other labels and fixes
abbrev pub diagnostic_tail_pairs : List ℕ → Finding → Pairs
diagnostic_tail_pairs untitled f = listed (codes "relatedInformation") (related_values_of untitled f.locations)
    ++ data_pairs (lsp_fix_values untitled f.fixes)

abbrev pub diagnostic : List ℕ → List ℕ → Finding → Json
diagnostic tool untitled f = object_of (diagnostic_head_pairs f ++ (message_pairs tool f
    ++ diagnostic_tail_pairs untitled f))
