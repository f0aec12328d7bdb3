-- A log doesn't nest deeply.
use Rattle.std.proofs.Common.{ℕ, suc, ◌+◌, ◌≤◌, List, [], ◌∷◌, ◌++◌, Bool, true, false, Option, Some, None, map}
use Rattle.std.proofs.Common.{arith, codes, option_map}
use Rattle.std.specs.Prelude.{if◌then◌else◌}
use Rattle.std.specs.List.{AllByRecursion, list_any}
use Rattle.std.specs.Str.{bytes_eq}
use Rattle.indexmap.specs.IndexSet.{insert_key}
use Rattle.json.specs.Tree.{depth, items_depth, members_depth}
use Rattle.miette_json.specs.rules.Json as json
use Rattle.miette_json.specs.rules.Json.{Json, json_text}
use Rattle.miette_sarif.specs.rules.Artifacts.{Artifacts, all_named, artifact, artifact_values, artifacts_in}
use Rattle.miette_sarif.specs.rules.Artifacts.{artifact_location}
use Rattle.miette_sarif.specs.rules.Codes.{Rules, rule_pairs, rule_value, rule_values, rules_in}
use Rattle.miette_sarif.specs.rules.Findings.{SarifRegion, Finding, SarifLocation, PhysicalLocation, ApplicableFix}
use Rattle.miette_sarif.specs.rules.Findings.{ReplacementValue, SourceName}
use Rattle.miette_sarif.specs.rules.Log.{ToolName, log, newlines, run, run_head, schema, tool_of}
use Rattle.miette_sarif.specs.rules.Messages.{doubled}
use Rattle.miette_sarif.specs.rules.Objects.{Pairs, array_of, items_of, listed, optional_text_pairs, members_of}
use Rattle.miette_sarif.specs.rules.Objects.{message_of}
use Rattle.miette_sarif.specs.rules.Objects.{object_of, pair}
use Rattle.miette_sarif.specs.rules.Places.{byte_pairs, line_pairs, location, place_pairs, place_value}
use Rattle.miette_sarif.specs.rules.Places.{primary_locations}
use Rattle.miette_sarif.specs.rules.Places.{region, region_pairs, related_from, snippet_pairs, text_pairs}
use Rattle.miette_sarif.specs.rules.Results.{change, first_values, sarif_fix_value, sarif_fix_values, result_head_pairs}
use Rattle.miette_sarif.specs.rules.Results.{inserted}
use Rattle.miette_sarif.specs.rules.Results.{result_message_text, replacement, result_of, results, result_tail_pairs}
use Rattle.miette_sarif.specs.rules.Uris.{address_uri}
use Rattle.miette_read_laws.proofs.Over.{all_more}
use Rattle.miette_read_laws.proofs.Spelled.{items_outline, members_outline, outline}

-- it nests so often at most
abbrev Within : ℕ → Json → Type 0
Within n v = depth (outline v) ≤ n

abbrev PairWithin : ℕ → List ℕ × Json → Type 0
PairWithin n p = Within n p.1

abbrev PairsWithin : ℕ → Pairs → Type 0
PairsWithin n = AllByRecursion (PairWithin n)

members_within : (n : ℕ) (ps : Pairs) → PairsWithin n ps → members_depth (members_outline (members_of ps)) ≤ n
members_within n [] h = omega arith
members_within n (p ∷ ps) h = let more = members_within n ps h.1 in omega (arith, h.0, more)

object_within : (n : ℕ) (ps : Pairs) → PairsWithin n ps → Within (suc n) (object_of ps)
object_within n ps h = let more = members_within n ps h in omega (arith, more)

items_within : (n : ℕ) (vs : List Json) → AllByRecursion (Within n) vs → items_depth (items_outline (items_of vs)) ≤ n
items_within n [] h = omega arith
items_within n (v ∷ vs) h = let more = items_within n vs h.1 in omega (arith, h.0, more)

array_within : (n : ℕ) (vs : List Json) → AllByRecursion (Within n) vs → Within (suc n) (array_of vs)
array_within n vs h = let more = items_within n vs h in omega (arith, more)

more_pairs : (n : ℕ) (ps qs : Pairs) → PairsWithin n ps → PairsWithin n qs → PairsWithin n (ps ++ qs)
more_pairs n ps qs h g = all_more (PairWithin n) ps qs h g

listed_within : (n : ℕ) (key : List ℕ) (vs : List Json) → AllByRecursion (Within n) vs
    → PairsWithin (suc n) (listed key vs)
listed_within n key [] h = tt
listed_within n key (v ∷ vs) h = (array_within n (v ∷ vs) h, tt)

text_within : (n : ℕ) (key : List ℕ) (o : Option (List ℕ)) → PairsWithin n (optional_text_pairs key o)
text_within n key None = tt
text_within n key (Some text) = (omega arith, tt)

mapped_within : {X : Type 0} (n : ℕ) (f : X → Json) → ((x : X) → Within n (f x)) → (xs : List X)
    → AllByRecursion (Within n) (map f xs)
mapped_within n f each [] = tt
mapped_within n f each (x ∷ xs) = (each x, mapped_within n f each xs)

one_pair : (n : ℕ) (key : List ℕ) (v : Json) → Within n v → PairsWithin n (pair key v)
one_pair n key v h = (h, tt)

-- ---- parts of a log

message_within : (n : ℕ) (text : List ℕ) → Within (suc n) (message_of text)
message_within n text = omega arith

lines_within : (n : ℕ) (s : _) → PairsWithin n (line_pairs s)
lines_within n s = (omega arith, (omega arith, (omega arith, (omega arith, tt))))

snippet_within : (n : ℕ) (o : Option (List ℕ)) → PairsWithin (suc n) (snippet_pairs o)
snippet_within n None = tt
snippet_within n (Some text) = (message_within n text, tt)

bytes_within : (n : ℕ) (s : _) → PairsWithin n (byte_pairs s)
bytes_within n s = (omega arith, (omega arith, tt))

region_within : (a : SarifRegion) → Within 2 (region a)
region_within a =
    object_within 1 (line_pairs a.stretch ++ (byte_pairs a.stretch ++ snippet_pairs a.snippet))
    (more_pairs 1 (line_pairs a.stretch) (byte_pairs a.stretch ++ snippet_pairs a.snippet) (lines_within 1 a.stretch)
    (more_pairs 1 (byte_pairs a.stretch) (snippet_pairs a.snippet) (bytes_within 1 a.stretch)
    (snippet_within 0 a.snippet)))

located_within : (n : ℕ) (a : Artifacts) (s : SourceName) → Within (suc n) (artifact_location a s)
located_within n a s = omega arith

area_within : (o : Option SarifRegion) → PairsWithin 2 (region_pairs o)
area_within None = tt
area_within (Some a) = (region_within a, tt)

place_within : (a : Artifacts) (p : PhysicalLocation) → Within 3 (place_value a p)
place_within a p =
    object_within 2 (pair (codes "artifactLocation") (artifact_location a p.source) ++ region_pairs p.area)
    (more_pairs 2 (pair (codes "artifactLocation") (artifact_location a p.source)) (region_pairs p.area)
    (located_within 1 a p.source, tt) (area_within p.area))

placed_within : (a : Artifacts) (o : Option PhysicalLocation) → PairsWithin 3 (place_pairs a o)
placed_within a None = tt
placed_within a (Some p) = (place_within a p, tt)

texts_within : (n : ℕ) (text : List ℕ) → PairsWithin (suc n) (text_pairs text)
texts_within n [] = tt
texts_within n (c ∷ cs) = (message_within n (doubled (c ∷ cs)), tt)

location_within : (a : Artifacts) (first : Pairs) (m : SarifLocation) → PairsWithin 3 first
    → Within 4 (location a first m)
location_within a first m h =
    object_within 3 (first ++ (place_pairs a m.place ++ text_pairs m.text))
    (more_pairs 3 first (place_pairs a m.place ++ text_pairs m.text) h
    (more_pairs 3 (place_pairs a m.place) (text_pairs m.text) (placed_within a m.place) (texts_within 2 m.text)))

primary_within : (a : Artifacts) (o : Option SarifLocation) → AllByRecursion (Within 4) (primary_locations a o)
primary_within a None = tt
primary_within a (Some m) = (location_within a [] m tt, tt)

related_within : (a : Artifacts) (id : ℕ) (ms : List SarifLocation) → AllByRecursion (Within 4) (related_from a id ms)
related_within a id [] = tt
related_within a id (m ∷ ms) =
    let number : Within 3 (json.number id) = omega arith in
    (location_within a (pair (codes "id") (json.number id)) m (number, tt), related_within a (id + 1) ms)

-- ---- fixes

inserted_within : (n : ℕ) (text : List ℕ) → PairsWithin (suc n) (inserted text)
inserted_within n [] = tt
inserted_within n (c ∷ cs) = (message_within n (c ∷ cs), tt)

replacement_within : (it : ReplacementValue) → Within 2 (replacement it)
replacement_within it =
    object_within 1 (pair (codes "deletedRegion") (object_of (line_pairs it.deleted)) ++ inserted it.text)
    (more_pairs 1 (pair (codes "deletedRegion") (object_of (line_pairs it.deleted))) (inserted it.text)
    (object_within 0 (line_pairs it.deleted) (lines_within 0 it.deleted), tt) (inserted_within 0 it.text))

change_within : (a : Artifacts) (fix : ApplicableFix) → Within 4 (change a fix)
change_within a fix =
    let its : List Json = map replacement fix.replacements in
    object_within 3 (pair (codes "artifactLocation") (artifact_location a fix.source)
    ++ pair (codes "replacements") (array_of its)) (
      located_within 2 a fix.source,
      (
        array_within 2 its
            (mapped_within 2 replacement replacement_within fix.replacements),
        tt,
      ),
    )

fix_within : (a : Artifacts) (fix : ApplicableFix) → Within 6 (sarif_fix_value a fix)
fix_within a fix =
    object_within 5 (pair (codes "description") (message_of (doubled fix.message))
    ++ pair (codes "artifactChanges") (array_of (change a fix ∷ [])))
    (message_within 4 (doubled fix.message), (array_within 4 (change a fix ∷ []) (change_within a fix, tt), tt))

one_within : (v : Json) (vs : List Json) (b : Bool) → Within 6 v → AllByRecursion (Within 6) vs
    → AllByRecursion (Within 6) ((if b then [] else v ∷ []) ++ vs)
one_within v vs true h g = g
one_within v vs false h g = (h, g)

first_within : (before : List (List ℕ)) (vs : List Json) → AllByRecursion (Within 6) vs
    → AllByRecursion (Within 6) (first_values before vs)
first_within before [] h = tt
first_within before (v ∷ vs) h =
    let after : List (List ℕ) = insert_key bytes_eq before (json_text v) in
    one_within v (first_values after vs) (list_any (bytes_eq (json_text v)) before) h.0 (first_within after vs h.1)

-- ---- results

code_within : (n : ℕ) (r : Rules) (code : List ℕ) → PairsWithin n (rule_pairs r code)
code_within n r [] = tt
code_within n r (c ∷ cs) = (omega arith, (omega arith, tt))

head_within : (r : Rules) (f : Finding) → PairsWithin 7 (result_head_pairs r f)
head_within r f =
    let level : Within 7 (json.string f.level) = omega arith in
    more_pairs 7 (rule_pairs r f.code)
    (pair (codes "level") (json.string f.level) ++ pair (codes "message") (message_of (result_message_text r f)))
    (code_within 7 r f.code) (level, (message_within 6 (result_message_text r f), tt))

higher : (vs : List Json) → AllByRecursion (Within 4) vs → AllByRecursion (Within 6) vs
higher [] h = tt
higher (v ∷ vs) h = (omega (arith, h.0), higher vs h.1)

tail_within : (a : Artifacts) (f : Finding) → PairsWithin 7 (result_tail_pairs a f)
tail_within a f =
    let ls : List Json = primary_locations a f.primary in
    let rs : List Json = related_from a 1 f.locations in
    let xs : List Json = sarif_fix_values a f.fixes in
    more_pairs 7 (listed (codes "locations") ls)
    (listed (codes "relatedLocations") rs ++ listed (codes "fixes") xs)
    (listed_within 6 (codes "locations") ls (higher ls (primary_within a f.primary)))
    (more_pairs 7 (listed (codes "relatedLocations") rs) (listed (codes "fixes") xs)
    (listed_within 6 (codes "relatedLocations") rs (higher rs (related_within a 1 f.locations)))
    (listed_within 6 (codes "fixes") xs
    (first_within [] (map (sarif_fix_value a) f.fixes) (mapped_within 6 (sarif_fix_value a) (fix_within a) f.fixes))))

result_within : (r : Rules) (a : Artifacts) (f : Finding) → Within 8 (result_of r a f)
result_within r a f =
    object_within 7 (result_head_pairs r f ++ result_tail_pairs a f)
    (more_pairs 7 (result_head_pairs r f) (result_tail_pairs a f) (head_within r f) (tail_within a f))

-- ---- the log

rule_within : (code : List ℕ) (uri : Option (List ℕ)) → Within 1 (rule_value code uri)
rule_within code uri =
    let id : Within 0 (json.string code) = omega arith in
    object_within 0 (pair (codes "id") (json.string code) ++ optional_text_pairs (codes "helpUri") uri)
    (more_pairs 0 (pair (codes "id") (json.string code)) (optional_text_pairs (codes "helpUri") uri) (id, tt)
    (text_within 0 (codes "helpUri") uri))

tool_within : (t : ToolName) (r : Rules) → Within 4 (tool_of t r)
tool_within t r =
    let name : Within 2 (json.string t.name) = omega arith in
    let first : Pairs = pair (codes "name") (json.string t.name) in
    let version : Pairs = optional_text_pairs (codes "version") t.version in
    let address : Option (List ℕ) = option_map address_uri t.information in
    let information : Pairs = optional_text_pairs (codes "informationUri") address in
    let rules : Pairs = listed (codes "rules") (rule_values r) in
    let rules_there = listed_within 1 (codes "rules") (rule_values r)
    (mapped_within 1 (λ code. rule_value code (r.uri code)) (λ code. rule_within code (r.uri code)) r.codes) in
    let driver = more_pairs 2 first (version ++ (information ++ rules)) (name, tt)
    (more_pairs 2 version (information ++ rules) (text_within 2 (codes "version") t.version)
    (more_pairs 2 information rules (text_within 2 (codes "informationUri") address) rules_there)) in
    let whole : Pairs = first ++ (version ++ (information ++ rules)) in
    object_within 3 (pair (codes "driver") (object_of whole)) (object_within 2 whole driver, tt)

artifact_within : (uri : List ℕ) → Within 2 (artifact uri)
artifact_within uri = omega arith

run_within : (t : ToolName) (fs : List Finding) → Within 10 (run t fs)
run_within t fs =
    let r : Rules = rules_in fs in
    let a : Artifacts = artifacts_in (all_named fs) in
    let tool = tool_within t r in
    let tool_higher : Within 9 (tool_of t r) = omega (arith, tool) in
    let kind : Within 9 (json.string (codes "utf16CodeUnits")) = omega arith in
    let ends : Within 9 newlines = omega arith in
    let uris : Pairs = listed (codes "artifacts") (artifact_values a) in
    let found : Pairs = pair (codes "results") (array_of (results r a fs)) in
    object_within 9 (run_head t r ++ (uris ++ found))
    (more_pairs 9 (run_head t r) (uris ++ found) (tool_higher, (kind, (ends, tt)))
    (more_pairs 9 uris found
    (listed_within 8 (codes "artifacts") (artifact_values a) (mapped_within 8 artifact (λ uri. omega arith) a.uris))
    (array_within 8 (results r a fs) (mapped_within 8 (result_of r a) (result_within r a) fs), tt)))

pub log_within : (t : ToolName) (fs : List Finding) → Within 12 (log t fs)
log_within t fs =
    let first : Within 11 (json.string schema) = omega arith in
    let version : Within 11 (json.string (codes "2.1.0")) = omega arith in
    object_within 11 (pair (codes "$schema") (json.string schema)
    ++ (pair (codes "version") (json.string (codes "2.1.0")) ++ pair (codes "runs") (array_of (run t fs ∷ []))))
    (first, (version, (array_within 10 (run t fs ∷ []) (run_within t fs, tt), tt)))
