-- The spelling of documents stands for them, and for no other value.
use Rattle.std.proofs.Common.{◌≡◌, ℕ, List, ◌++◌, None, ap, ◌∙◌}
use Rattle.std.specs.Prelude.{IsUtf8}
use Rattle.miette_json.specs.rules.Denotes.{Denotes, HasTokensOf}
use Rattle.miette_json.specs.rules.Json.{Json, json_text}
use Rattle.miette_json.proofs.Standing.{stands_for}
use Rattle.miette_tree.specs.rules.Reads.{AllAlwaysRead}
use Rattle.miette_tree.specs.rules.Tree.{Trees}
use Rattle.miette_tree.specs.views.Handler.{AppendsOne}
use Rattle.miette_sarif.specs.rules.Findings.{Finding}
use Rattle.miette_sarif.specs.rules.FindingList.{AreFindingsOf, read_findings}
use Rattle.miette_sarif.proofs.Always.{trees_read}
use Rattle.miette_lsp.specs.rules.Documents.{documents}
use Rattle.miette_lsp.specs.rules.LspText.{IsLspOf, lsp_text}

pub is_lsp : ((v : Json) → HasTokensOf (json_text v) v)
    → ((bytes : List ℕ) (v w : Json) → Denotes bytes v → Denotes bytes w → v ≡ w)
    → (tool : List ℕ) (ts : Trees) (fs : List Finding) → AreFindingsOf ts fs → (value : Json)
    → value ≡ documents tool fs → (text : List ℕ) → IsUtf8 text → text ≡ json_text value → IsLspOf tool ts text
is_lsp tokens one tool ts fs found value is text utf8 e =
    let it = stands_for tokens one (documents tool fs) text utf8 (e ∙ ap json_text is) in
    record { findings = fs; found = found; spelled = it.spelled; denotes = it.denotes; only = it.only }

-- the text where all sources always read
read_text : (tool : List ℕ) (ts : Trees) (old new : List ℕ) → AppendsOne (IsLspOf tool ts) old new
    → AllAlwaysRead ts → new ≡ old ++ lsp_text tool ts
read_text tool ts old new put reads =
    let found = put.is_given.found in
    let same : put.is_given.findings ≡ read_findings ts =
    found.are ∙ trees_read 0 None found.answers ts reads found.possible in
    put.appended ∙ ap (λ l. old ++ l) (put.is_given.spelled ∙ ap (λ fs. json_text (documents tool fs)) same)

-- of documents that are put after a text
pub text_read : (tool : List ℕ) (ts : Trees) (text added old new : List ℕ) → IsLspOf tool ts text
    → new ≡ old ++ added → added ≡ text → AllAlwaysRead ts → new ≡ old ++ lsp_text tool ts
text_read tool ts text added old new h put same reads =
    let appended : AppendsOne (IsLspOf tool ts) old new = record {
      text = text;
      is_given = h;
      appended = put ∙ ap (λ l. old ++ l) same;
    } in
    read_text tool ts old new appended reads
