-- By what the results of a log are read.
use Rattle.std.proofs.Common.{◌≡◌, ℕ, List, [], ◌∷◌, ◌++◌, Option, Some, None, map, refl, ap, ◌∙◌, codes}
use Rattle.std.proofs.Common.{filter, option_and_then, option_map, unwrap_or}
use Rattle.std.specs.Prelude.{if◌then◌else◌}
use Rattle.std.specs.List.{filter_map}
use Rattle.std.specs.Str.{bytes_eq}
use Rattle.serde_json.specs.Data.{Data, string}
use Rattle.serde_json.specs.Find.{as_array, as_str, get}
use Rattle.miette_json.specs.rules.Json as json
use Rattle.miette_json.specs.rules.Json.{Json}
use Rattle.miette_positions.specs.declared.position.PositionEncoding.{PositionEncoding}
use Rattle.miette_positions.specs.declared.position.PositionEncoding.TheVariants.{Utf16, Utf32}
use Rattle.miette_protocol.specs.rules.Reading.{Source}
use Rattle.miette_read.specs.rules.Members.{is_object, array_items, member_object, objects_alone, member_objects}
use Rattle.miette_sarif.specs.rules.Codes.{Rules, rule_value, rule_values}
use Rattle.miette_sarif.specs.rules.Log.{ToolName, newlines, run_head, tool_of}
use Rattle.miette_sarif.specs.rules.Objects.{Pairs, array_of, listed, optional_text_pairs, object_of, pair}
use Rattle.miette_sarif.specs.rules.Uris.{address_uri}
use Rattle.miette_read_sarif.specs.rules.Logs.{driver_of, extensions_by, run_context_of, rules_by, run_tool}
use Rattle.miette_read_sarif.specs.rules.Newlines.{newlines_of, or_usual, sequence_in}
use Rattle.miette_read_sarif.specs.rules.Regions.{encoding_of}
use Rattle.miette_read_sarif.specs.rules.Results.{RunContext}
use Rattle.miette_read_laws.specs.laws.Data.{data_of}
use Rattle.miette_read_laws.specs.laws.RegionsBack.{log_newlines}
use Rattle.miette_read_laws.proofs.Objects.{all_objects, listed_read, object_read, objects_in, some_array}
use Rattle.miette_read_laws.proofs.Objects.{value_in}

abbrev made : (List ℕ → Option Source) → List Data → PositionEncoding → List (List ℕ) → List Data → List (List Data)
    → Option Data → RunContext
made files artifacts encoding ends rules extensions bases = record {
  files = files;
  encoding = encoding;
  newlines = ends;
  rules = rules;
  extensions = extensions;
  artifacts = artifacts;
  bases = bases;
  strings = None;
}

abbrev pub log_context : (List ℕ → Option Source) → Rules → List Data → RunContext
log_context files r artifacts = made files artifacts Utf16 log_newlines (map data_of (rule_values r)) [] None

-- ---- a run

module _ (t : ToolName) (r : Rules) (rs : List Json) where
  abbrev run_pairs : List Json → Pairs
  run_pairs artifacts =
      run_head t r ++ (listed (codes "artifacts") artifacts ++ pair (codes "results") (array_of rs))

  abbrev pub run_data : List Json → Data
  run_data artifacts = data_of (object_of (run_pairs artifacts))

  tool_in : (artifacts : List Json)
      → value_in (codes "tool") (run_pairs artifacts) None ≡ Some (data_of (tool_of t r))
  tool_in [] = refl
  tool_in (v ∷ vs) = refl

  kind_in : (artifacts : List Json)
      → value_in (codes "columnKind") (run_pairs artifacts) None ≡ Some (string (codes "utf16CodeUnits"))
  kind_in [] = refl
  kind_in (v ∷ vs) = refl

  ends_in : (artifacts : List Json)
      → value_in (codes "newlineSequences") (run_pairs artifacts) None ≡ Some (data_of newlines)
  ends_in [] = refl
  ends_in (v ∷ vs) = refl

  bases_in : (artifacts : List Json) → value_in (codes "originalUriBaseIds") (run_pairs artifacts) None ≡ None
  bases_in [] = refl
  bases_in (v ∷ vs) = refl

  invocations_in : (artifacts : List Json) → value_in (codes "invocations") (run_pairs artifacts) None ≡ None
  invocations_in [] = refl
  invocations_in (v ∷ vs) = refl

  -- the tool says nothing of itself
  pub invocations_read : (artifacts : List Json) → get (codes "invocations") (run_data artifacts) ≡ None
  invocations_read artifacts = object_read (codes "invocations") (run_pairs artifacts) ∙ invocations_in artifacts

  results_in : (artifacts : List Json)
      → value_in (codes "results") (run_pairs artifacts) None ≡ Some (data_of (array_of rs))
  results_in [] = refl
  results_in (v ∷ vs) = refl

  pub results_read : (artifacts : List Json)
      → get (codes "results") (run_data artifacts) ≡ Some (data_of (array_of rs))
  results_read artifacts = object_read (codes "results") (run_pairs artifacts) ∙ results_in artifacts

  -- ---- its tool

  abbrev driver_pairs : Option (List ℕ) → Option (List ℕ) → Pairs
  driver_pairs version information =
      pair (codes "name") (json.string t.name)
      ++ (optional_text_pairs (codes "version") version
      ++ (optional_text_pairs (codes "informationUri") information ++ listed (codes "rules") (rule_values r)))

  abbrev driver_by : Option (List ℕ) → Option (List ℕ) → Data
  driver_by version information = data_of (object_of (driver_pairs version information))

  rules_in : (version information : Option (List ℕ))
      → value_in (codes "rules") (driver_pairs version information) None ≡ some_array (rule_values r)
  rules_in None None = listed_read (codes "rules") (rule_values r) refl
  rules_in None (Some uri) = listed_read (codes "rules") (rule_values r) refl
  rules_in (Some version) None = listed_read (codes "rules") (rule_values r) refl
  rules_in (Some version) (Some uri) = listed_read (codes "rules") (rule_values r) refl

  driver_rules : (version information : Option (List ℕ))
      → rules_by (Some (driver_by version information)) ≡ map data_of (rule_values r)
  driver_rules version information =
      objects_in (codes "rules") (driver_by version information) (rule_values r)
      (object_read (codes "rules") (driver_pairs version information) ∙ rules_in version information)
      (all_objects (λ code. rule_value code (r.uri code)) (λ code. refl) r.codes)

  abbrev information : Option (List ℕ)
  information = option_map address_uri t.information

  driver_read : member_object (codes "driver") (data_of (tool_of t r)) ≡ Some (driver_by t.version information)
  driver_read =
      ap (option_and_then objects_alone)
      (object_read (codes "driver") (pair (codes "driver") (object_of (driver_pairs t.version information))))

  rules_read : (artifacts : List Json) → rules_by (driver_of (run_data artifacts)) ≡ map data_of (rule_values r)
  rules_read artifacts =
      ap (λ o. rules_by (option_and_then (member_object (codes "driver")) (option_and_then objects_alone o)))
      (object_read (codes "tool") (run_pairs artifacts) ∙ tool_in artifacts)
      ∙ (ap rules_by driver_read ∙ driver_rules t.version information)

  no_extensions : get (codes "extensions") (data_of (tool_of t r)) ≡ None
  no_extensions =
      object_read (codes "extensions") (pair (codes "driver") (object_of (driver_pairs t.version information)))

  extensions_read : (artifacts : List Json) → extensions_by (run_tool (run_data artifacts)) ≡ []
  extensions_read artifacts =
      ap (λ o. extensions_by (option_and_then objects_alone o))
      (object_read (codes "tool") (run_pairs artifacts) ∙ tool_in artifacts)
      ∙ ap (λ o. map (member_objects (codes "rules")) (filter is_object (array_items (option_and_then as_array o))))
      no_extensions

  -- ---- how places are counted

  encoding_read : (artifacts : List Json) → encoding_of (run_data artifacts) ≡ Utf16
  encoding_read artifacts =
      ap (λ o. if bytes_eq (unwrap_or (option_and_then as_str o) []) (codes "utf16CodeUnits") then Utf16 else Utf32)
      (object_read (codes "columnKind") (run_pairs artifacts) ∙ kind_in artifacts)

  newlines_read : (artifacts : List Json) → newlines_of (run_data artifacts) ≡ log_newlines
  newlines_read artifacts =
      ap (λ o. or_usual (filter_map sequence_in (array_items (option_and_then as_array o))))
      (object_read (codes "newlineSequences") (run_pairs artifacts) ∙ ends_in artifacts)

  bases_read : (artifacts : List Json) → member_object (codes "originalUriBaseIds") (run_data artifacts) ≡ None
  bases_read artifacts =
      ap (option_and_then objects_alone)
      (object_read (codes "originalUriBaseIds") (run_pairs artifacts) ∙ bases_in artifacts)

  -- ---- all of it

  abbrev pub found : List Json → List Data
  found artifacts = member_objects (codes "artifacts") (run_data artifacts)

  pub ground_read : (files : List ℕ → Option Source) (artifacts : List Json)
      → run_context_of files (run_data artifacts) ≡ log_context files r (found artifacts)
  ground_read files artifacts =
      let d : Data = run_data artifacts in
      let rules : List Data = map data_of (rule_values r) in
      let extensions : List (List Data) = extensions_by (run_tool d) in
      let bases : Option Data = member_object (codes "originalUriBaseIds") d in
      ap (λ it. made files (found artifacts) it (newlines_of d) (rules_by (driver_of d)) extensions bases)
      (encoding_read artifacts)
      ∙ (ap (λ it. made files (found artifacts) Utf16 it (rules_by (driver_of d)) extensions bases)
      (newlines_read artifacts)
      ∙ (ap (λ it. made files (found artifacts) Utf16 log_newlines it extensions bases) (rules_read artifacts)
      ∙ (ap (λ it. made files (found artifacts) Utf16 log_newlines rules it bases) (extensions_read artifacts)
      ∙ ap (made files (found artifacts) Utf16 log_newlines rules []) (bases_read artifacts))))
