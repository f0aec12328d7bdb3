-- One of our own logs, as it is read.
use Rattle.std.specs.Prelude.{◌≡◌, ℕ, List, Option, Some, map, option_and_then}
use Rattle.serde_json.specs.Data.{Data}
use Rattle.serde_json.specs.Read.{read}
use Rattle.miette_protocol.specs.rules.Reading.{Source}
use Rattle.miette_sarif.specs.rules.Artifacts.{all_named, artifacts_in}
use Rattle.miette_sarif.specs.rules.Codes.{rules_in}
use Rattle.miette_sarif.specs.rules.Findings.{Finding}
use Rattle.miette_sarif.specs.rules.FindingList.{AreFindingsOf}
use Rattle.miette_sarif.specs.rules.Log.{ToolName, run}
use Rattle.miette_sarif.specs.rules.Results.{result_of}
use Rattle.miette_read_sarif.specs.rules.Logs.{run_context_of, sarif_trees}
use Rattle.miette_read_sarif.specs.rules.Results.{RunContext, result_context}
use Rattle.miette_tree.specs.rules.Tree.{Trees}
use Rattle.miette_read_laws.specs.laws.Data.{data_of}
use Rattle.miette_read_laws.specs.laws.Kept.{report_kept}

-- The JSON result of a finding.
abbrev pub result_data : List Finding → Finding → Data
result_data fs f = data_of (result_of (rules_in fs) (artifacts_in (all_named fs)) f)

-- The context in which it is read.
abbrev pub result_log_context : (List ℕ → Option Source) → ToolName → List Finding → Finding → RunContext
result_log_context files tool fs f = result_context (run_context_of files (data_of (run tool fs))) (result_data fs f)

-- The text is read as one report for each finding of the reports, in order.
pub record ReadsBack (files : List ℕ → Option Source) (reports : Trees) (text : List ℕ) : Type 0 where
  pub findings : List Finding
  pub found : AreFindingsOf reports findings
  pub trees : option_and_then (sarif_trees files) (read text) ≡ Some (map (report_kept files findings) findings)
