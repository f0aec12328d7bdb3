-- The text of a log.
use Rattle.std.specs.Prelude.{◌≡◌, ℕ, List}
use Rattle.miette_json.specs.rules.Denotes.{Denotes}
use Rattle.miette_json.specs.rules.Json.{Json, json_text}
use Rattle.miette_tree.specs.rules.Tree.{Trees}
use Rattle.miette_sarif.specs.rules.Findings.{Finding}
use Rattle.miette_sarif.specs.rules.FindingList.{AreFindingsOf, read_findings}
use Rattle.miette_sarif.specs.rules.Log.{ToolName, log}

-- The text spells the log of the reports' findings, for some answers of their sources. It represents that value and no
-- other.
pub record IsLogOf (t : ToolName) (ts : Trees) (text : List ℕ) : Type 0 where
  pub findings : List Finding
  pub found : AreFindingsOf ts findings
  pub spelled : text ≡ json_text (log t findings)
  pub denotes : Denotes text (log t findings)
  pub only : (other : Json) → Denotes text other → other ≡ log t findings

-- the text if all sources of the reports always read
abbrev pub log_text : ToolName → Trees → List ℕ
log_text t ts = json_text (log t (read_findings ts))
