-- The results and the rules that are read of a log.
use Rattle.std.proofs.Common.{◌≡◌, ℕ, List, [], ◌∷◌, ◌++◌, Option, Some, None, refl, ap, ◌∙◌, append-nil, codes}
use Rattle.std.specs.Prelude.{option_map}
use Rattle.miette_json.specs.rules.Json.{Json, string}
use Rattle.miette_sarif.specs.rules.Artifacts.{all_named, artifact_values, artifacts_in}
use Rattle.miette_sarif.specs.rules.Codes.{Rules, rule_values, rules_in as rules_of}
use Rattle.miette_sarif.specs.rules.Findings.{Finding}
use Rattle.miette_sarif.specs.rules.Log.{ToolName, log, run, run_head}
use Rattle.miette_sarif.specs.rules.Objects.{array_of, items_of, listed, optional_text_pairs, object_of, pair}
use Rattle.miette_sarif.specs.rules.Results.{results}
use Rattle.miette_sarif.specs.rules.Uris.{address_uri}
use Rattle.miette_sarif.specs.laws.ReportTexts.{results_in, rules_in}
use Rattle.miette_sarif.specs.laws.Values.{list_at, listed_items, value_at}

items_back : (vs : List Json) → listed_items (items_of vs) ≡ vs
items_back [] = refl
items_back (v ∷ vs) = ap (λ l. v ∷ l) (items_back vs)

-- ---- results

results_after : (t : ToolName) (r : Rules) (artifacts vs : List Json)
    → list_at (codes "results") (object_of (run_head t r
    ++ (listed (codes "artifacts") artifacts ++ pair (codes "results") (array_of vs)))) ≡ vs
results_after t r [] vs = items_back vs
results_after t r (a ∷ artifacts) vs = items_back vs

pub results_listed : (t : ToolName) (fs : List Finding)
    → results_in (log t fs) ≡ results (rules_of fs) (artifacts_in (all_named fs)) fs
results_listed t fs =
    append-nil (list_at (codes "results") (run t fs))
    ∙ results_after t (rules_of fs) (artifact_values (artifacts_in (all_named fs)))
    (results (rules_of fs) (artifacts_in (all_named fs)) fs)

-- ---- rules

rules_last : (vs : List Json) → list_at (codes "rules") (object_of (listed (codes "rules") vs)) ≡ vs
rules_last [] = refl
rules_last (v ∷ vs) = items_back (v ∷ vs)

rules_after_uri : (uri : Option (List ℕ)) (vs : List Json)
    → list_at (codes "rules") (object_of (optional_text_pairs (codes "informationUri") uri
    ++ listed (codes "rules") vs)) ≡ vs
rules_after_uri None vs = rules_last vs
rules_after_uri (Some uri) vs = rules_last vs

rules_after : (name : List ℕ) (version uri : Option (List ℕ)) (vs : List Json)
    → list_at (codes "rules") (object_of (pair (codes "name") (string name)
    ++ (optional_text_pairs (codes "version") version
    ++ (optional_text_pairs (codes "informationUri") uri ++ listed (codes "rules") vs)))) ≡ vs
rules_after name None uri vs = rules_after_uri uri vs
rules_after name (Some version) uri vs = rules_after_uri uri vs

pub rules_listed : (t : ToolName) (fs : List Finding) → rules_in (log t fs) ≡ rule_values (rules_of fs)
rules_listed t fs =
    append-nil (list_at (codes "rules") (value_at (codes "driver") (value_at (codes "tool") (run t fs))))
    ∙ rules_after t.name t.version (option_map address_uri t.information) (rule_values (rules_of fs))
