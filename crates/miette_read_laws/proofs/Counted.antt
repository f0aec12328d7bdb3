-- Each result of a log counts, and its tool says nothing of itself.
use Rattle.std.proofs.Common.{◌≡◌, ℕ, List, [], ◌∷◌, true, map, filter, refl, ap, ◌∙◌, codes, option_and_then}
use Rattle.std.proofs.Common.{unwrap_or}
use Rattle.std.specs.Prelude.{if◌then◌else◌, not, ◌||◌}
use Rattle.std.specs.List.{flat_map}
use Rattle.std.specs.Str.{bytes_eq}
use Rattle.serde_json.specs.Data.{Data}
use Rattle.serde_json.specs.Find.{as_array, as_str}
use Rattle.miette_json.specs.rules.Json.{Json}
use Rattle.miette_read.specs.rules.Members.{is_object, array_items}
use Rattle.miette_sarif.specs.rules.Artifacts.{Artifacts}
use Rattle.miette_sarif.specs.rules.Codes.{Rules}
use Rattle.miette_sarif.specs.rules.Findings.{Finding}
use Rattle.miette_sarif.specs.rules.Log.{ToolName}
use Rattle.miette_sarif.specs.rules.Places.{primary_locations, related_from}
use Rattle.miette_sarif.specs.rules.Results.{sarif_fix_values, result_message_text, result_of, results}
use Rattle.miette_read_sarif.specs.rules.Counting.{are_accepted, is_counted, has_passed, is_absent}
use Rattle.miette_read_sarif.specs.rules.Notices.{notices_in, tool_notifications}
use Rattle.miette_read_laws.specs.laws.Data.{data_of}
use Rattle.miette_read_laws.proofs.RunContext.{invocations_read, run_data}
use Rattle.miette_read_laws.proofs.Members.{baseline_read, kind_read, result_by, suppressions_read}

module _ (r : Rules) (level text : List ℕ) (ls rs xs : List Json) (code : List ℕ) where
  abbrev d : Data
  d = result_by r level text ls rs xs code

  counted : is_counted d ≡ true
  counted =
      ap (λ o. not (are_accepted (filter is_object (array_items (option_and_then as_array o)))
      || (is_absent d || has_passed d))) (suppressions_read r level text ls rs xs code)
      ∙ (ap (λ o. not (bytes_eq (unwrap_or (option_and_then as_str o) []) (codes "absent") || has_passed d))
      (baseline_read r level text ls rs xs code)
      ∙ ap (λ o. not (bytes_eq (unwrap_or (option_and_then as_str o) []) (codes "pass")
      || bytes_eq (unwrap_or (option_and_then as_str o) []) (codes "notApplicable")))
      (kind_read r level text ls rs xs code))

result_counts : (r : Rules) (a : Artifacts) (f : Finding) → is_counted (data_of (result_of r a f)) ≡ true
result_counts r a f =
    counted r f.level (result_message_text r f) (primary_locations a f.primary) (related_from a 1 f.locations)
    (sarif_fix_values a f.fixes) f.code

pub all_count : (r : Rules) (a : Artifacts) (fs : List Finding)
    → filter is_counted (map data_of (results r a fs)) ≡ map data_of (results r a fs)
all_count r a [] = refl
all_count r a (f ∷ fs) =
    let later : List Data = filter is_counted (map data_of (results r a fs)) in
    ap (λ b. if b then data_of (result_of r a f) ∷ later else later) (result_counts r a f)
    ∙ ap (λ ds. data_of (result_of r a f) ∷ ds) (all_count r a fs)

pub no_notices : (t : ToolName) (r : Rules) (rs artifacts : List Json) → tool_notifications (run_data t r rs artifacts)
    ≡ []
no_notices t r rs artifacts =
    ap (λ o. flat_map notices_in (filter is_object (array_items (option_and_then as_array o))))
    (invocations_read t r rs artifacts)
