-- The own parts and annotations of a result.
use Rattle.std.specs.Prelude.{ℕ, List, [], ◌∷◌, ◌++◌, Option, Some, None, Bool, true, false, if◌then◌else◌, codes}
use Rattle.std.specs.Prelude.{◌||◌}
use Rattle.std.specs.Prelude.{bytes_eq, decimal, is_some, map, option_and_then, option_map, unwrap_or}
use Rattle.std.specs.Prelude.{◌+◌}
use Rattle.std.specs.List.{flat_map}
use Rattle.std.specs.Option.{option_or}
use Rattle.serde_json.specs.Data.{Data}
use Rattle.miette_positions.specs.declared.position.PositionEncoding.{PositionEncoding}
use Rattle.miette_protocol.specs.declared.protocol.Severity.{Severity}
use Rattle.miette_protocol.specs.declared.protocol.Severity.TheVariants.{Advice, Warning, Error}
use Rattle.miette_protocol.specs.rules.Reading.{Source}
use Rattle.miette_read.specs.rules.Members.{member_items, member_object, member_objects, nonempty_text, member_text}
use Rattle.miette_read.specs.rules.Members.{member_number}
use Rattle.miette_read.specs.rules.Places.{ToolLocation, Annotation, text_after}
use Rattle.miette_read.specs.rules.Reports.{MessageParts}
use Rattle.miette_read.specs.rules.Rustc.{maybe_row}
use Rattle.miette_read_sarif.specs.rules.Bases.{file_name}
use Rattle.miette_read_sarif.specs.rules.Descriptors.{item_at, rule_at, rule_id, rule_named}
use Rattle.miette_read_sarif.specs.rules.Messages.{message_shown}
use Rattle.miette_read_sarif.specs.rules.Regions.{has_begin, has_line, start_column, start_line}
use Rattle.miette_read_sarif.specs.rules.Regions.{region_range}

-- What the results of a run are read with. `rules` are those of the tool's driver, `strings` the message strings of a
-- result's rule.
pub record RunContext : Type 0 where
  pub files : List ℕ → Option Source
  pub encoding : PositionEncoding
  pub newlines : List (List ℕ)
  pub rules : List Data
  pub extensions : List (List Data)
  pub artifacts : List Data
  pub bases : Option Data
  pub strings : Option Data

-- ---- rules

-- The rule of a result: by index, or else by id.
abbrev pub rule_of : RunContext → Data → Option Data
rule_of g r = option_or (rule_at g.rules g.extensions r) (rule_named g.rules g.extensions (rule_id r))

-- ---- messages

abbrev pub strings_of : RunContext → Data → Option Data
strings_of g r = option_and_then (member_object (codes "messageStrings")) (rule_of g r)

-- The context of one result.
abbrev pub result_context : RunContext → Data → RunContext
result_context g r = record g { strings = strings_of g r }

-- The message string with this id.
abbrev pub string_named : Option Data → List ℕ → Option (List ℕ)
string_named strings id = option_and_then (member_text (codes "text")) (option_and_then (member_object id) strings)

-- The message's own text, or else the message string of its id.
abbrev pub string_of : Option Data → Data → Option (List ℕ)
string_of strings m =
    option_or (member_text (codes "text") m) (option_and_then (string_named strings) (member_text (codes "id") m))

-- The shown text of a message, or its id if that has no message string.
abbrev pub message_text : Option Data → Data → Option (List ℕ)
message_text strings m =
    option_or (option_map (message_shown (member_items (codes "arguments") m)) (string_of strings m))
    (member_text (codes "id") m)

abbrev pub message_in : Option Data → Data → Option (List ℕ)
message_in strings d = option_and_then (message_text strings) (member_object (codes "message") d)

-- ---- what a result says

abbrev pub result_code : RunContext → Data → Option (List ℕ)
result_code g r = option_or (rule_id r) (option_and_then (member_text (codes "id")) (rule_of g r))

abbrev pub url_of : RunContext → Data → Option (List ℕ)
url_of g r = option_and_then (member_text (codes "helpUri")) (rule_of g r)

-- A result without a kind is one of a failed rule.
abbrev pub has_failed : Data → Bool
has_failed r = bytes_eq (unwrap_or (member_text (codes "kind") r) (codes "fail")) (codes "fail")

abbrev pub level_by : Data → Option (List ℕ)
level_by rule = option_and_then (member_text (codes "level")) (member_object (codes "defaultConfiguration") rule)

-- The level of a result that has none: its rule's, or `warning`. If the rule hasn't failed, `none`.
abbrev pub default_level : RunContext → Data → List ℕ
default_level g r =
    if has_failed r then unwrap_or (option_and_then level_by (rule_of g r)) (codes "warning") else codes "none"

abbrev pub result_level : RunContext → Data → List ℕ
result_level g r = unwrap_or (member_text (codes "level") r) (default_level g r)

abbrev pub sarif_severity : List ℕ → Severity
sarif_severity level =
    if bytes_eq level (codes "error") then Error else if bytes_eq level (codes "warning") then Warning else Advice

abbrev pub result_parts : RunContext → Option (List ℕ) → Data → MessageParts
result_parts g help r = record {
  message = unwrap_or (message_in g.strings r) [];
  code = result_code g r;
  severity = sarif_severity (result_level g r);
  help = help;
  url = url_of g r;
}

-- ---- places

-- A location that has a URI.
abbrev pub with_uri : Data → Option Data
with_uri l = if is_some (member_text (codes "uri") l) then Some l else None

-- The location of an artifact.
abbrev pub location_of : Data → Option Data
location_of artifact = option_and_then with_uri (member_object (codes "location") artifact)

-- The location itself, or else that of the artifact with its index.
abbrev pub file_by : RunContext → Data → Option Data
file_by g l = option_or (with_uri l) (option_and_then location_of (item_at g.artifacts
    (member_number (codes "index") l)))

-- The file location of a physical location or artifact change.
abbrev pub file_at : RunContext → Data → Option Data
file_at g d = option_and_then (file_by g) (member_object (codes "artifactLocation") d)

abbrev pub physical : Data → Option Data
physical l = member_object (codes "physicalLocation") l

abbrev pub file_of : RunContext → Data → Option Data
file_of g l = option_and_then (file_at g) (physical l)

-- A region that has a start.
abbrev pub with_begin : Data → Option Data
with_begin region = if has_begin region then Some region else None

abbrev pub region_of : Data → Option Data
region_of l = option_and_then with_begin (option_and_then (member_object (codes "region")) (physical l))

abbrev pub region_location : RunContext → List ℕ → Data → ToolLocation
region_location g name region = record {
  name = name;
  stretch = option_and_then (λ (source : Source). region_range g.encoding g.newlines source.bytes region)
      (g.files name);
  line = start_line region;
  column = start_column region;
}

-- ---- what is said

abbrev pub unlocated_text : Option (List ℕ) → Bool → Annotation
unlocated_text row own = record { rows = maybe_row row; place = None; primary = false; own = own }

-- A text about a file without a region.
abbrev pub file_row : List ℕ → Option (List ℕ) → List ℕ
file_row name row = name ++ text_after row

-- The annotation of a region. If its range isn't found and it has no line, the file name comes before the text.
abbrev pub annotation_in_region : Option (List ℕ) → Bool → Bool → Bool → ToolLocation → Annotation
annotation_in_region row primary own lines place =
    if lines || is_some place.stretch
    then record { rows = maybe_row row; place = Some place; primary = primary; own = own }
    else unlocated_text (Some (file_row place.name row)) own

-- A text about a whole file, if there is one.
abbrev pub whole_row : List ℕ → Option (List ℕ) → Option (List ℕ)
whole_row name row = option_map (λ text. file_row name (Some text)) row

-- The annotation of a location: at its region, or else the file name and text, or else the text.
abbrev pub annotation_in_file : RunContext → Option (List ℕ) → Bool → Bool → Option Data → Option Data → Annotation
annotation_in_file g row primary own None region = unlocated_text row own
annotation_in_file g row primary own (Some file) None = unlocated_text (whole_row (file_name g.bases file) row) own
annotation_in_file g row primary own (Some file) (Some region) =
    annotation_in_region row primary own (has_line region) (region_location g (file_name g.bases file) region)

abbrev pub located_annotation : RunContext → Bool → Bool → Data → Annotation
located_annotation g primary own l = annotation_in_file g (nonempty_text (message_in g.strings l)) primary own
    (file_of g l) (region_of l)

-- The first of a result's own locations is primary.
abbrev pub own_annotations : RunContext → List Data → List Annotation
own_annotations g [] = []
own_annotations g (l ∷ ls) = located_annotation g true true l ∷ map (located_annotation g false true) ls

-- ---- steps of flows, as GCC's paths are told

abbrev pub after_number : Option (List ℕ) → List ℕ
after_number None = []
after_number (Some text) = 32 ∷ text

-- The number of a step, and its text.
abbrev pub step_row : ℕ → Option (List ℕ) → List ℕ
step_row n text = ((codes "(" ++ decimal n) ++ codes ")") ++ after_number text

-- A step without a location has no text.
abbrev pub step_annotation_by : RunContext → ℕ → Option Data → Annotation
step_annotation_by g n None = unlocated_text None false
step_annotation_by g n (Some l) =
    annotation_in_file g (Some (step_row n (nonempty_text (message_in g.strings l)))) false false (file_of g l)
    (region_of l)

abbrev pub step_annotation : RunContext → ℕ → Data → Annotation
step_annotation g n s = step_annotation_by g n (member_object (codes "location") s)

-- The steps of a thread, numbered from `n`.
abbrev pub step_annotations : RunContext → ℕ → List Data → List Annotation
step_annotations g n [] = []
step_annotations g n (s ∷ ss) = step_annotation g n s ∷ step_annotations g (n + 1) ss

abbrev pub thread_annotations : RunContext → Data → List Annotation
thread_annotations g t = step_annotations g 1 (member_objects (codes "locations") t)

abbrev pub flow_annotations : RunContext → Data → List Annotation
flow_annotations g f = flat_map (thread_annotations g) (member_objects (codes "threadFlows") f)

-- ---- all of it

abbrev pub related_annotations : RunContext → Data → List Annotation
related_annotations g r = map (located_annotation g true false) (member_objects (codes "relatedLocations") r)

-- The result's own locations, then its related locations as notes, then the steps of its flows.
abbrev pub result_annotations : RunContext → Data → List Annotation
result_annotations g r =
    (own_annotations g (member_objects (codes "locations") r) ++ related_annotations g r)
    ++ flat_map (flow_annotations g) (member_objects (codes "codeFlows") r)
