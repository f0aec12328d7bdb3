-- The logs that `job --sarif` and `job --lsp` write.
use Rattle.std.specs.Prelude.{◌≡◌, ℕ, ◌<◌, List, [], ◌∷◌, Option, Some, IfSome}
use Rattle.std.specs.Prelude.{IsUtf8}
use Rattle.miette_tree.specs.rules.Tree.{Tree, trees}
use Rattle.miette_description.specs.rules.Description.{tree_of_bytes}
use Rattle.miette_lsp.specs.rules.LogWords.{LogRequest, logged_text}
use Rattle.miette_report.specs.rules.Job.{IsDescription, IsNoDescription}

-- The input is a description, and the property holds for the log of its report.
abbrev pub Logs : LogRequest → List ℕ → (List ℕ → Type 0) → Type 0
Logs asked bytes holds = IsUtf8 bytes × ((t : Tree) × (tree_of_bytes bytes ≡ Some t)
    × holds (logged_text asked (trees (t ∷ []))))

-- The exit code, by the input. A log is never refused.
pub record IsLogStatus (told : Option (List ℕ)) (status : ℕ) : Type 0 where
  pub below : status < 4
  pub done : status ≡ 0 → IfSome told IsDescription
  pub description : status ≡ 3 → IfSome told IsNoDescription
  pub called : ¬ (status ≡ 2)
