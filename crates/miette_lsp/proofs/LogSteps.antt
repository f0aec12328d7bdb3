-- Texts of logs that handlers append to nothing.
use Rattle.std.proofs.Common.{◌≡◌, ℕ, List, [], ◌++◌, ◌∙◌, ap}
use Rattle.miette_lsp.specs.rules.LspText.{lsp_text}
use Rattle.miette_sarif.specs.rules.Log.{ToolName}
use Rattle.miette_sarif.specs.rules.LogText.{log_text}
use Rattle.miette_tree.specs.rules.Reads.{AllAlwaysRead}
use Rattle.miette_tree.specs.rules.Tree.{Trees}

pub logged : (t u : ToolName) (ts : Trees) (old new : List ℕ) → t ≡ u → old ≡ []
    → (AllAlwaysRead ts → new ≡ old ++ log_text t ts) → AllAlwaysRead ts → new ≡ log_text u ts
logged t u ts old new same none log reads =
    log reads ∙ ap (λ l. l ++ log_text t ts) none ∙ ap (λ x. log_text x ts) same

pub listed : (t u : List ℕ) (ts : Trees) (old new : List ℕ) → t ≡ u → old ≡ []
    → (AllAlwaysRead ts → new ≡ old ++ lsp_text t ts) → AllAlwaysRead ts → new ≡ lsp_text u ts
listed t u ts old new same none told reads =
    told reads ∙ ap (λ l. l ++ lsp_text t ts) none ∙ ap (λ x. lsp_text x ts) same
