-- What is read of the objects of a log: the values at the keys that readers ask for.
use Rattle.std.proofs.Common.{◌≡◌, ℕ, ◌+◌, List, [], ◌∷◌, ◌++◌, false, Option, Some, None, map, refl, ap, ◌∙◌}
use Rattle.std.proofs.Common.{codes, option_map}
use Rattle.std.specs.List.{AllByRecursion}
use Rattle.std.specs.Str.{bytes_eq}
use Rattle.serde_json.specs.Data.{Data, number, string, unsigned}
use Rattle.serde_json.specs.Find.{get}
use Rattle.miette_json.specs.rules.Json as json
use Rattle.miette_json.specs.rules.Json.{Json}
use Rattle.miette_positions.specs.declared.position.Stretch.{Stretch}
use Rattle.miette_sarif.specs.rules.Artifacts.{Artifacts, index_of, artifact_location, uri_of}
use Rattle.miette_sarif.specs.rules.Codes.{Rules, rule_pairs}
use Rattle.miette_sarif.specs.rules.Findings.{SarifRegion, SarifLocation, PhysicalLocation, ApplicableFix}
use Rattle.miette_sarif.specs.rules.Findings.{ReplacementValue, SourceName}
use Rattle.miette_sarif.specs.rules.Messages.{doubled}
use Rattle.miette_sarif.specs.rules.Objects.{Pairs, array_of, listed, message_of, object_of, pair}
use Rattle.miette_sarif.specs.rules.Places.{byte_pairs, line_pairs, place_pairs, place_value, region, region_pairs}
use Rattle.miette_sarif.specs.rules.Places.{related_from, snippet_pairs, text_pairs}
use Rattle.miette_sarif.specs.rules.Results.{change, sarif_fix_value, inserted, replacement}
use Rattle.miette_read_laws.specs.laws.Data.{data_of}
use Rattle.miette_read_laws.proofs.Objects.{IsObject, after_pairs, listed_read, object_read, skips, some_array}
use Rattle.miette_read_laws.proofs.Objects.{value_in}

-- ---- a result

abbrev pub head_by : Rules → List ℕ → List ℕ → List ℕ → Pairs
head_by r code level text =
    rule_pairs r code ++ (pair (codes "level") (json.string level) ++ pair (codes "message") (message_of text))

abbrev pub tail_by : List Json → List Json → List Json → Pairs
tail_by ls rs xs =
    listed (codes "locations") ls ++ (listed (codes "relatedLocations") rs ++ listed (codes "fixes") xs)

module _ (r : Rules) (level text : List ℕ) (ls rs xs : List Json) where
  abbrev pub result_by : List ℕ → Data
  result_by code = data_of (object_of (head_by r code level text ++ tail_by ls rs xs))

  abbrev in_head : List ℕ → List ℕ → Option Data
  in_head code k = value_in k (head_by r code level text) None

  parts_read : (code k : List ℕ) → get k (result_by code) ≡ value_in k (tail_by ls rs xs) (in_head code k)
  parts_read code k =
      object_read k (head_by r code level text ++ tail_by ls rs xs)
      ∙ after_pairs k (head_by r code level text) (tail_by ls rs xs) None

  tail_read : (k : List ℕ) (o : Option Data) → value_in k (tail_by ls rs xs) o
      ≡ value_in k (listed (codes "fixes") xs)
      (value_in k (listed (codes "relatedLocations") rs) (value_in k (listed (codes "locations") ls) o))
  tail_read k o =
      after_pairs k (listed (codes "locations") ls)
      (listed (codes "relatedLocations") rs ++ listed (codes "fixes") xs) o
      ∙ after_pairs k (listed (codes "relatedLocations") rs) (listed (codes "fixes") xs)
      (value_in k (listed (codes "locations") ls) o)

  -- a key of no place and no fix
  other_read : (code k : List ℕ) (o : Option Data) → in_head code k ≡ o → bytes_eq k (codes "locations") ≡ false
      → bytes_eq k (codes "relatedLocations") ≡ false → bytes_eq k (codes "fixes") ≡ false
      → get k (result_by code) ≡ o
  other_read code k o is e f g =
      let places : Option Data = value_in k (listed (codes "locations") ls) o in
      parts_read code k ∙ (ap (value_in k (tail_by ls rs xs)) is ∙ (tail_read k o
      ∙ (skips k (codes "fixes") xs (value_in k (listed (codes "relatedLocations") rs) places) g
      ∙ (skips k (codes "relatedLocations") rs places f ∙ skips k (codes "locations") ls o e))))

  level_in : (code : List ℕ) → in_head code (codes "level") ≡ Some (string level)
  level_in [] = refl
  level_in (c ∷ cs) = refl

  pub level_read : (code : List ℕ) → get (codes "level") (result_by code) ≡ Some (string level)
  level_read code = other_read code (codes "level") (Some (string level)) (level_in code) refl refl refl

  message_in : (code : List ℕ) → in_head code (codes "message") ≡ Some (data_of (message_of text))
  message_in [] = refl
  message_in (c ∷ cs) = refl

  pub message_read : (code : List ℕ) → get (codes "message") (result_by code) ≡ Some (data_of (message_of text))
  message_read code =
      other_read code (codes "message") (Some (data_of (message_of text))) (message_in code) refl refl refl

  rule_in : (code : List ℕ) → in_head code (codes "rule") ≡ None
  rule_in [] = refl
  rule_in (c ∷ cs) = refl

  pub rule_read : (code : List ℕ) → get (codes "rule") (result_by code) ≡ None
  rule_read code = other_read code (codes "rule") None (rule_in code) refl refl refl

  flows_in : (code : List ℕ) → in_head code (codes "codeFlows") ≡ None
  flows_in [] = refl
  flows_in (c ∷ cs) = refl

  pub flows_read : (code : List ℕ) → get (codes "codeFlows") (result_by code) ≡ None
  flows_read code = other_read code (codes "codeFlows") None (flows_in code) refl refl refl

  suppressions_in : (code : List ℕ) → in_head code (codes "suppressions") ≡ None
  suppressions_in [] = refl
  suppressions_in (c ∷ cs) = refl

  pub suppressions_read : (code : List ℕ) → get (codes "suppressions") (result_by code) ≡ None
  suppressions_read code = other_read code (codes "suppressions") None (suppressions_in code) refl refl refl

  baseline_in : (code : List ℕ) → in_head code (codes "baselineState") ≡ None
  baseline_in [] = refl
  baseline_in (c ∷ cs) = refl

  pub baseline_read : (code : List ℕ) → get (codes "baselineState") (result_by code) ≡ None
  baseline_read code = other_read code (codes "baselineState") None (baseline_in code) refl refl refl

  kind_in : (code : List ℕ) → in_head code (codes "kind") ≡ None
  kind_in [] = refl
  kind_in (c ∷ cs) = refl

  pub kind_read : (code : List ℕ) → get (codes "kind") (result_by code) ≡ None
  kind_read code = other_read code (codes "kind") None (kind_in code) refl refl refl

  pub no_id_read : get (codes "ruleId") (result_by []) ≡ None
  no_id_read = other_read [] (codes "ruleId") None refl refl refl refl

  pub no_index_read : get (codes "ruleIndex") (result_by []) ≡ None
  no_index_read = other_read [] (codes "ruleIndex") None refl refl refl refl

  pub id_read : (c : ℕ) (cs : List ℕ) → get (codes "ruleId") (result_by (c ∷ cs)) ≡ Some (string (c ∷ cs))
  id_read c cs = other_read (c ∷ cs) (codes "ruleId") (Some (string (c ∷ cs))) refl refl refl refl

  pub index_read : (c : ℕ) (cs : List ℕ)
      → get (codes "ruleIndex") (result_by (c ∷ cs)) ≡ Some (number (unsigned (index_of (bytes_eq (c ∷ cs)) r.codes)))
  index_read c cs =
      other_read (c ∷ cs) (codes "ruleIndex") (Some (number (unsigned (index_of (bytes_eq (c ∷ cs)) r.codes)))) refl
      refl refl refl

  -- ---- its places and fixes

  no_list : (k : List ℕ) → in_head [] k ≡ None → ((c : ℕ) (cs : List ℕ) → in_head (c ∷ cs) k ≡ None)
      → (code : List ℕ) → in_head code k ≡ None
  no_list k e f [] = e
  no_list k e f (c ∷ cs) = f c cs

  list_read : (code k : List ℕ) → in_head code k ≡ None → get k (result_by code)
      ≡ value_in k (listed (codes "fixes") xs)
      (value_in k (listed (codes "relatedLocations") rs) (value_in k (listed (codes "locations") ls) None))
  list_read code k is =
      parts_read code k ∙ (ap (value_in k (tail_by ls rs xs)) is ∙ tail_read k None)

  pub places_read : (code : List ℕ) → get (codes "locations") (result_by code) ≡ some_array ls
  places_read code =
      let k : List ℕ = codes "locations" in
      let places : Option Data = value_in k (listed (codes "locations") ls) None in
      list_read code k (no_list k refl (λ c cs. refl) code)
      ∙ (skips k (codes "fixes") xs (value_in k (listed (codes "relatedLocations") rs) places) refl
      ∙ (skips k (codes "relatedLocations") rs places refl ∙ listed_read k ls refl))

  pub related_read : (code : List ℕ) → get (codes "relatedLocations") (result_by code) ≡ some_array rs
  related_read code =
      let k : List ℕ = codes "relatedLocations" in
      let places : Option Data = value_in k (listed (codes "locations") ls) None in
      list_read code k (no_list k refl (λ c cs. refl) code)
      ∙ (skips k (codes "fixes") xs (value_in k (listed (codes "relatedLocations") rs) places) refl
      ∙ (ap (value_in k (listed (codes "relatedLocations") rs)) (skips k (codes "locations") ls None refl)
      ∙ listed_read k rs refl))

  pub fixes_read : (code : List ℕ) → get (codes "fixes") (result_by code) ≡ some_array xs
  fixes_read code =
      let k : List ℕ = codes "fixes" in
      let places : Option Data = value_in k (listed (codes "locations") ls) None in
      list_read code k (no_list k refl (λ c cs. refl) code)
      ∙ (ap (value_in k (listed (codes "fixes") xs))
      (skips k (codes "relatedLocations") rs places refl ∙ skips k (codes "locations") ls None refl)
      ∙ listed_read k xs refl)

-- ---- a location

-- its number among related ones
abbrev pub id_pairs : Option ℕ → Pairs
id_pairs None = []
id_pairs (Some id) = pair (codes "id") (json.number id)

abbrev pub location_pairs : Artifacts → Option ℕ → Option PhysicalLocation → List ℕ → Pairs
location_pairs a id place text = id_pairs id ++ (place_pairs a place ++ text_pairs text)

abbrev pub location_by : Artifacts → Option ℕ → Option PhysicalLocation → List ℕ → Data
location_by a id place text = data_of (object_of (location_pairs a id place text))

abbrev pub placed : Artifacts → Option PhysicalLocation → Option Data
placed a place = option_map (λ p. data_of (place_value a p)) place

physical_in : (a : Artifacts) (id : Option ℕ) (place : Option PhysicalLocation) (text : List ℕ)
    → value_in (codes "physicalLocation") (location_pairs a id place text) None ≡ placed a place
physical_in a None None [] = refl
physical_in a None None (c ∷ cs) = refl
physical_in a None (Some p) [] = refl
physical_in a None (Some p) (c ∷ cs) = refl
physical_in a (Some id) None [] = refl
physical_in a (Some id) None (c ∷ cs) = refl
physical_in a (Some id) (Some p) [] = refl
physical_in a (Some id) (Some p) (c ∷ cs) = refl

pub physical_read : (a : Artifacts) (id : Option ℕ) (place : Option PhysicalLocation) (text : List ℕ)
    → get (codes "physicalLocation") (location_by a id place text) ≡ placed a place
physical_read a id place text =
    object_read (codes "physicalLocation") (location_pairs a id place text) ∙ physical_in a id place text

abbrev pub text_value : List ℕ → Option Data
text_value [] = None
text_value (c ∷ cs) = Some (data_of (message_of (doubled (c ∷ cs))))

text_in : (a : Artifacts) (id : Option ℕ) (place : Option PhysicalLocation) (text : List ℕ)
    → value_in (codes "message") (location_pairs a id place text) None ≡ text_value text
text_in a None None [] = refl
text_in a None None (c ∷ cs) = refl
text_in a None (Some p) [] = refl
text_in a None (Some p) (c ∷ cs) = refl
text_in a (Some id) None [] = refl
text_in a (Some id) None (c ∷ cs) = refl
text_in a (Some id) (Some p) [] = refl
text_in a (Some id) (Some p) (c ∷ cs) = refl

pub text_read : (a : Artifacts) (id : Option ℕ) (place : Option PhysicalLocation) (text : List ℕ)
    → get (codes "message") (location_by a id place text) ≡ text_value text
text_read a id place text =
    object_read (codes "message") (location_pairs a id place text) ∙ text_in a id place text

pub all_related : (a : Artifacts) (id : ℕ) (ms : List SarifLocation) → AllByRecursion IsObject (related_from a id ms)
all_related a id [] = tt
all_related a id (m ∷ ms) = (refl, all_related a (id + 1) ms)

-- ---- a place

place_in : (l : Json) (area : Option SarifRegion)
    → value_in (codes "artifactLocation") (pair (codes "artifactLocation") l ++ region_pairs area) None
    ≡ Some (data_of l)
place_in l None = refl
place_in l (Some area) = refl

pub artifact_read : (a : Artifacts) (p : PhysicalLocation)
    → get (codes "artifactLocation") (data_of (place_value a p)) ≡ Some (data_of (artifact_location a p.source))
artifact_read a p =
    object_read (codes "artifactLocation") (pair (codes "artifactLocation") (artifact_location a p.source)
    ++ region_pairs p.area)
    ∙ place_in (artifact_location a p.source) p.area

region_in : (l : Json) (area : Option SarifRegion)
    → value_in (codes "region") (pair (codes "artifactLocation") l ++ region_pairs area) None
    ≡ option_map (λ it. data_of (region it)) area
region_in l None = refl
region_in l (Some area) = refl

pub region_read : (a : Artifacts) (p : PhysicalLocation)
    → get (codes "region") (data_of (place_value a p)) ≡ option_map (λ it. data_of (region it)) p.area
region_read a p =
    object_read (codes "region") (pair (codes "artifactLocation") (artifact_location a p.source) ++ region_pairs p.area)
    ∙ region_in (artifact_location a p.source) p.area

abbrev located_pairs : Artifacts → SourceName → Pairs
located_pairs a s =
    let uri : List ℕ = uri_of a.untitled s in
    pair (codes "uri") (json.string uri) ++ pair (codes "index") (json.number (index_of (bytes_eq uri) a.uris))

pub uri_read : (a : Artifacts) (s : SourceName)
    → get (codes "uri") (data_of (artifact_location a s)) ≡ Some (string (uri_of a.untitled s))
uri_read a s = object_read (codes "uri") (located_pairs a s)

pub base_read : (a : Artifacts) (s : SourceName) → get (codes "uriBaseId") (data_of (artifact_location a s)) ≡ None
base_read a s = object_read (codes "uriBaseId") (located_pairs a s)

-- ---- a region

-- its lines and columns are those of a stretch
pub record AreLines (d : Data) (s : Stretch) : Type 0 where
  pub start_line : get (codes "startLine") d ≡ Some (number (unsigned (s.start.position.line + 1)))
  pub start_column : get (codes "startColumn") d ≡ Some (number (unsigned (s.start.position.column + 1)))
  pub end_line : get (codes "endLine") d ≡ Some (number (unsigned (s.end.position.line + 1)))
  pub end_column : get (codes "endColumn") d ≡ Some (number (unsigned (s.end.position.column + 1)))

region_lines : (s : Stretch) (snippet : Option (List ℕ))
    → AreLines (data_of (object_of (line_pairs s ++ (byte_pairs s ++ snippet_pairs snippet)))) s
region_lines s None =
    let ps : Pairs = line_pairs s ++ (byte_pairs s ++ []) in
    record {
      start_line = object_read (codes "startLine") ps;
      start_column = object_read (codes "startColumn") ps;
      end_line = object_read (codes "endLine") ps;
      end_column = object_read (codes "endColumn") ps;
    }
region_lines s (Some text) =
    let ps : Pairs = line_pairs s ++ (byte_pairs s ++ pair (codes "snippet") (message_of text)) in
    record {
      start_line = object_read (codes "startLine") ps;
      start_column = object_read (codes "startColumn") ps;
      end_line = object_read (codes "endLine") ps;
      end_column = object_read (codes "endColumn") ps;
    }

pub area_lines : (area : SarifRegion) → AreLines (data_of (region area)) area.stretch
area_lines area = region_lines area.stretch area.snippet

pub lines_alone : (s : Stretch) → AreLines (data_of (object_of (line_pairs s))) s
lines_alone s = record {
  start_line = object_read (codes "startLine") (line_pairs s);
  start_column = object_read (codes "startColumn") (line_pairs s);
  end_line = object_read (codes "endLine") (line_pairs s);
  end_column = object_read (codes "endColumn") (line_pairs s);
}

-- ---- a message

abbrev text_pair : List ℕ → Pairs
text_pair text = pair (codes "text") (json.string text)

pub own_text_read : (text : List ℕ) → get (codes "text") (data_of (message_of text)) ≡ Some (string text)
own_text_read text = object_read (codes "text") (text_pair text)

pub arguments_read : (text : List ℕ) → get (codes "arguments") (data_of (message_of text)) ≡ None
arguments_read text = object_read (codes "arguments") (text_pair text)

-- ---- a fix

abbrev fix_pairs : Artifacts → ApplicableFix → Pairs
fix_pairs a fix = pair (codes "description") (message_of (doubled fix.message))
    ++ pair (codes "artifactChanges") (array_of (change a fix ∷ []))

pub description_read : (a : Artifacts) (fix : ApplicableFix)
    → get (codes "description") (data_of (sarif_fix_value a fix)) ≡ Some (data_of (message_of (doubled fix.message)))
description_read a fix = object_read (codes "description") (fix_pairs a fix)

pub changes_read : (a : Artifacts) (fix : ApplicableFix)
    → get (codes "artifactChanges") (data_of (sarif_fix_value a fix)) ≡ some_array (change a fix ∷ [])
changes_read a fix = object_read (codes "artifactChanges") (fix_pairs a fix)

abbrev change_pairs : Artifacts → ApplicableFix → Pairs
change_pairs a fix = pair (codes "artifactLocation") (artifact_location a fix.source)
    ++ pair (codes "replacements") (array_of (map replacement fix.replacements))

pub changed_read : (a : Artifacts) (fix : ApplicableFix)
    → get (codes "artifactLocation") (data_of (change a fix)) ≡ Some (data_of (artifact_location a fix.source))
changed_read a fix = object_read (codes "artifactLocation") (change_pairs a fix)

pub replacements_read : (a : Artifacts) (fix : ApplicableFix) → get (codes "replacements") (data_of (change a fix))
    ≡ Some (data_of (array_of (map replacement fix.replacements)))
replacements_read a fix = object_read (codes "replacements") (change_pairs a fix)

abbrev replaced_pairs : Stretch → List ℕ → Pairs
replaced_pairs s text = pair (codes "deletedRegion") (object_of (line_pairs s)) ++ inserted text

deleted_in : (s : Stretch) (text : List ℕ) → value_in (codes "deletedRegion") (replaced_pairs s text) None
    ≡ Some (data_of (object_of (line_pairs s)))
deleted_in s [] = refl
deleted_in s (c ∷ cs) = refl

pub deleted_read : (it : ReplacementValue) → get (codes "deletedRegion") (data_of (replacement it))
    ≡ Some (data_of (object_of (line_pairs it.deleted)))
deleted_read it =
    object_read (codes "deletedRegion") (replaced_pairs it.deleted it.text) ∙ deleted_in it.deleted it.text

abbrev pub inserted_value : List ℕ → Option Data
inserted_value [] = None
inserted_value (c ∷ cs) = Some (data_of (message_of (c ∷ cs)))

inserted_in : (s : Stretch) (text : List ℕ)
    → value_in (codes "insertedContent") (replaced_pairs s text) None ≡ inserted_value text
inserted_in s [] = refl
inserted_in s (c ∷ cs) = refl

pub inserted_read : (it : ReplacementValue)
    → get (codes "insertedContent") (data_of (replacement it)) ≡ inserted_value it.text
inserted_read it =
    object_read (codes "insertedContent") (replaced_pairs it.deleted it.text) ∙ inserted_in it.deleted it.text
