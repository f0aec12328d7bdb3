-- The spelling of a log stands for it, and for no other value.
use Rattle.std.proofs.Common.{◌≡◌, ℕ, List, ◌++◌, None, ap, ◌∙◌, subst}
use Rattle.std.specs.Prelude.{IsUtf8}
use Rattle.miette_json.specs.rules.Denotes.{Denotes, HasTokensOf}
use Rattle.miette_json.specs.rules.Json.{Json, json_text}
use Rattle.miette_json.proofs.Standing.{stands_for}
use Rattle.miette_tree.specs.rules.Reads.{AllAlwaysRead}
use Rattle.miette_tree.specs.rules.Tree.{Trees}
use Rattle.miette_tree.specs.views.Handler.{AppendsOne}
use Rattle.miette_sarif.specs.rules.Findings.{Finding}
use Rattle.miette_sarif.specs.rules.FindingList.{AreFindingsOf, read_findings}
use Rattle.miette_sarif.specs.rules.Log.{ToolName, log}
use Rattle.miette_sarif.specs.rules.LogText.{IsLogOf, log_text}
use Rattle.miette_sarif.proofs.Always.{trees_read}

pub is_log : ((v : Json) → HasTokensOf (json_text v) v)
    → ((bytes : List ℕ) (v w : Json) → Denotes bytes v → Denotes bytes w → v ≡ w)
    → (t : ToolName) (ts : Trees) (fs : List Finding) → AreFindingsOf ts fs → (value : Json) → value ≡ log t fs
    → (text : List ℕ) → IsUtf8 text → text ≡ json_text value → IsLogOf t ts text
is_log tokens one t ts fs found value is text utf8 e =
    let it = stands_for tokens one (log t fs) text utf8 (e ∙ ap json_text is) in
    record { findings = fs; found = found; spelled = it.spelled; denotes = it.denotes; only = it.only }

-- the text where all sources always read
pub read_text : (t : ToolName) (ts : Trees) (old new : List ℕ) → AppendsOne (IsLogOf t ts) old new → AllAlwaysRead ts
    → new ≡ old ++ log_text t ts
read_text t ts old new put reads =
    let found = put.is_given.found in
    let same : put.is_given.findings ≡ read_findings ts =
    found.are ∙ trees_read 0 None found.answers ts reads found.possible in
    put.appended ∙ ap (λ l. old ++ l) (put.is_given.spelled ∙ ap (λ fs. json_text (log t fs)) same)

-- of a log that is put after a text
pub text_read : (t u : ToolName) (ts : Trees) (text added old new : List ℕ) → t ≡ u → IsLogOf t ts text
    → new ≡ old ++ added → added ≡ text → AllAlwaysRead ts → new ≡ old ++ log_text u ts
text_read t u ts text added old new e h put same reads =
    let appended : AppendsOne (IsLogOf u ts) old new = record {
      text = text;
      is_given = subst (λ x. IsLogOf x ts text) e h;
      appended = put ∙ ap (λ l. old ++ l) same;
    } in
    read_text u ts old new appended reads
