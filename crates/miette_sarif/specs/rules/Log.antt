-- The value of a log (SARIF 2.1.0): one run of a tool with the findings of its reports.
use Rattle.std.specs.Prelude.{ℕ, List, [], ◌∷◌, ◌++◌, codes, Option, option_map}
use Rattle.miette_json.specs.rules.Json.{Json, string}
use Rattle.miette_sarif.specs.rules.Artifacts.{Artifacts, all_named, artifacts_in, artifact_values}
use Rattle.miette_sarif.specs.rules.Codes.{Rules, rules_in, rule_values}
use Rattle.miette_sarif.specs.rules.Findings.{Finding}
use Rattle.miette_sarif.specs.rules.Objects.{Pairs, object_of, array_of, pair, listed, optional_text_pairs}
use Rattle.miette_sarif.specs.rules.Results.{results}
use Rattle.miette_sarif.specs.rules.Uris.{address_uri}

-- name, version and address of the tool
pub record ToolName : Type 0 where
  pub name : List ℕ
  pub version : Option (List ℕ)
  pub information : Option (List ℕ)

abbrev pub tool_of : ToolName → Rules → Json
tool_of t r = object_of (pair (codes "driver") (object_of (pair (codes "name") (string t.name)
    ++ (optional_text_pairs (codes "version") t.version
    ++ (optional_text_pairs (codes "informationUri") (option_map address_uri t.information)
    ++ listed (codes "rules") (rule_values r))))))

-- the line terminators CR LF, LF and CR; SARIF's default has no CR
abbrev pub newlines : Json
newlines = array_of (string (13 ∷ 10 ∷ []) ∷ string (10 ∷ []) ∷ string (13 ∷ []) ∷ [])

-- the tool, and the unit of columns and lines
abbrev pub run_head : ToolName → Rules → Pairs
run_head t r = pair (codes "tool") (tool_of t r)
    ++ (pair (codes "columnKind") (string (codes "utf16CodeUnits")) ++ pair (codes "newlineSequences") newlines)

abbrev pub run_with : ToolName → Rules → Artifacts → List Finding → Json
run_with t r a fs = object_of (run_head t r
    ++ (listed (codes "artifacts") (artifact_values a) ++ pair (codes "results") (array_of (results r a fs))))

abbrev pub run : ToolName → List Finding → Json
run t fs = run_with t (rules_in fs) (artifacts_in (all_named fs)) fs

abbrev pub schema : List ℕ
schema = codes "https://docs.oasis-open.org/sarif/sarif/v2.1.0/errata01/os/schemas/sarif-schema-2.1.0.json"

abbrev pub log : ToolName → List Finding → Json
log t fs = object_of (pair (codes "$schema") (string schema) ++ (pair (codes "version") (string (codes "2.1.0"))
    ++ pair (codes "runs") (array_of (run t fs ∷ []))))
