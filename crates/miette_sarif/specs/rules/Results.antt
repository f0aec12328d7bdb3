-- The results of a log, one for each finding.
use Rattle.std.specs.Prelude.{ℕ, List, [], ◌∷◌, ◌++◌, map, codes, if◌then◌else◌, Option, Some, None}
use Rattle.std.specs.List.{list_any}
use Rattle.std.specs.Str.{bytes_eq}
use Rattle.indexmap.specs.IndexSet.{insert_key}
use Rattle.miette_json.specs.rules.Json.{Json, string, json_text}
use Rattle.miette_sarif.specs.rules.Artifacts.{Artifacts, artifact_location}
use Rattle.miette_sarif.specs.rules.Codes.{Rules, rule_pairs, is_uri_of_rule}
use Rattle.miette_sarif.specs.rules.Findings.{ReplacementValue, ApplicableFix, Finding}
use Rattle.miette_sarif.specs.rules.Messages.{doubled, maybe_row, row, rows}
use Rattle.miette_sarif.specs.rules.Objects.{Pairs, object_of, array_of, pair, listed, message_of}
use Rattle.miette_sarif.specs.rules.Places.{line_pairs, primary_locations, related_from}

-- ---- messages

-- the url, unless it is the rule's help address
abbrev pub see_row : Option (List ℕ) → Option (List ℕ) → List ℕ
see_row uri None = []
see_row uri (Some url) = if is_uri_of_rule uri url then [] else row (codes "see: ") url

abbrev pub result_message_text : Rules → Finding → List ℕ
result_message_text r f = doubled f.message ++ (rows (codes "caused by: ") f.causes
    ++ (maybe_row (codes "help: ") f.help
    ++ (rows (codes "fix: ") f.unapplied ++ see_row (r.uri f.code) f.url)))

-- ---- fixes

abbrev pub inserted : List ℕ → Pairs
inserted [] = []
inserted (c ∷ cs) = pair (codes "insertedContent") (message_of (c ∷ cs))

abbrev pub replacement : ReplacementValue → Json
replacement it = object_of (pair (codes "deletedRegion") (object_of (line_pairs it.deleted)) ++ inserted it.text)

abbrev pub change : Artifacts → ApplicableFix → Json
change a fix = object_of (pair (codes "artifactLocation") (artifact_location a fix.source)
    ++ pair (codes "replacements") (array_of (map replacement fix.replacements)))

abbrev pub sarif_fix_value : Artifacts → ApplicableFix → Json
sarif_fix_value a fix = object_of (pair (codes "description") (message_of (doubled fix.message))
    ++ pair (codes "artifactChanges") (array_of (change a fix ∷ [])))

-- a value, unless its text is among the given ones
abbrev pub one_first : List (List ℕ) → Json → List Json
one_first before v = if list_any (bytes_eq (json_text v)) before then [] else v ∷ []

-- the values without duplicates and without those whose texts are among the given ones
abbrev pub first_values : List (List ℕ) → List Json → List Json
first_values before [] = []
first_values before (v ∷ vs) = one_first before v ++ first_values (insert_key bytes_eq before (json_text v)) vs

abbrev pub sarif_fix_values : Artifacts → List ApplicableFix → List Json
sarif_fix_values a fixes = first_values [] (map (sarif_fix_value a) fixes)

-- ---- results

-- rule, level and message
abbrev pub result_head_pairs : Rules → Finding → Pairs
result_head_pairs r f = rule_pairs r f.code ++ (pair (codes "level") (string f.level)
    ++ pair (codes "message") (message_of (result_message_text r f)))

-- locations and fixes
abbrev pub result_tail_pairs : Artifacts → Finding → Pairs
result_tail_pairs a f = listed (codes "locations") (primary_locations a f.primary)
    ++ (listed (codes "relatedLocations") (related_from a 1 f.locations)
    ++ listed (codes "fixes") (sarif_fix_values a f.fixes))

abbrev pub result_of : Rules → Artifacts → Finding → Json
result_of r a f = object_of (result_head_pairs r f ++ result_tail_pairs a f)

abbrev pub results : Rules → Artifacts → List Finding → List Json
results r a fs = map (result_of r a) fs
