-- The text of a list of documents with their diagnostics.
use Rattle.std.specs.Prelude.{◌≡◌, ℕ, List}
use Rattle.miette_json.specs.rules.Denotes.{Denotes}
use Rattle.miette_json.specs.rules.Json.{Json, json_text}
use Rattle.miette_tree.specs.rules.Tree.{Trees}
use Rattle.miette_sarif.specs.rules.Findings.{Finding}
use Rattle.miette_sarif.specs.rules.FindingList.{AreFindingsOf, read_findings}
use Rattle.miette_lsp.specs.rules.Documents.{documents}

-- The text spells the documents of the findings of the reports, for some answers of their sources. It represents that
-- value and no other.
pub record IsLspOf (tool : List ℕ) (ts : Trees) (text : List ℕ) : Type 0 where
  pub findings : List Finding
  pub found : AreFindingsOf ts findings
  pub spelled : text ≡ json_text (documents tool findings)
  pub denotes : Denotes text (documents tool findings)
  pub only : (other : Json) → Denotes text other → other ≡ documents tool findings

-- the text if all sources of the reports always read
abbrev pub lsp_text : List ℕ → Trees → List ℕ
lsp_text tool ts = json_text (documents tool (read_findings ts))
