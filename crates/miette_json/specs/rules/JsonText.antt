-- The JSON text of a report.
use Rattle.std.specs.Prelude.{◌≡◌, ℕ, List, true}
use Rattle.miette_tree.specs.rules.Tree.{Tree}
use Rattle.miette_tree.specs.rules.Reads.{report_reads}
use Rattle.miette_json.specs.rules.Json.{Json, json_text}
use Rattle.miette_json.specs.rules.Denotes.{Denotes}
use Rattle.miette_json.specs.rules.JsonReport.{IsValueOf, value_of}

-- the text of a report if the sources of its file names always read
abbrev pub value_text : Tree → List ℕ
value_text t = json_text (value_of t)

-- The text spells a value that the report may have. If the sources of its file names always read, that is the report's
-- one value. The text represents that value and no other.
pub record IsJsonOf (t : Tree) (text : List ℕ) : Type 0 where
  pub value : Json
  pub of_tree : IsValueOf t value
  pub always : report_reads t ≡ true → value ≡ value_of t
  pub spelled : text ≡ json_text value
  pub denotes : Denotes text value
  pub only : (other : Json) → Denotes text other → other ≡ value
