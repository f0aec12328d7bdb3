-- The text of a job, by its input and arguments.
use Rattle.std.specs.Prelude.{◌≡◌, ℕ, Bool, List, Some, None, false, IsUtf8}
use Rattle.miette_program.specs.Options.{Options}
use Rattle.miette_style.specs.declared.theme.Terminal.{Terminal}
use Rattle.miette_tree.specs.rules.Tree.{Tree}
use Rattle.miette_tree.specs.rules.Reads.{report_in_bounds}
use Rattle.miette_description.specs.rules.Description.{tree_of_bytes}
use Rattle.miette_program.specs.declared.language.LanguageHighlighter.{LanguageHighlighter}
use Rattle.miette_program.specs.declared.arguments.Choice.{Choice}
use Rattle.miette_program.specs.rules.JobText.{IsJobText}

-- the input is a description, and the property holds for its text
abbrev pub Writes : (LanguageHighlighter → Bool) → Choice → Options LanguageHighlighter → Terminal → List ℕ
    → (List ℕ → Type 0) → Type 0
Writes is_blank choice options terminal bytes holds =
    IsUtf8 bytes × ((t : Tree) × (tree_of_bytes bytes ≡ Some t)
    × ((text : List ℕ) × IsJobText is_blank choice options terminal t text × holds text))

-- the input is a description
abbrev pub IsDescription : List ℕ → Type 0
IsDescription bytes = IsUtf8 bytes × ((t : Tree) × (tree_of_bytes bytes ≡ Some t))

-- the input is no description
abbrev pub IsNoDescription : List ℕ → Type 0
IsNoDescription bytes = IsUtf8 bytes → tree_of_bytes bytes ≡ None

-- the input is a description, and a label of its report is out of bounds
abbrev pub IsRefused : List ℕ → Type 0
IsRefused bytes = IsUtf8 bytes × ((t : Tree) × (tree_of_bytes bytes ≡ Some t) × (report_in_bounds t ≡ false))
