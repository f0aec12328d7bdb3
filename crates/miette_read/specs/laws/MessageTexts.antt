-- Where the texts of a message are in its report.
use Rattle.std.specs.Prelude.{◌≡◌, ◌⊎◌, ℕ, List, Some}
use Rattle.std.specs.List.{Any}
use Rattle.miette_fixes.specs.rules.Edits.{FixModel}
use Rattle.miette_read.specs.rules.Kept.{IsKept}
use Rattle.miette_read.specs.rules.Reports.{MessageParts}
use Rattle.miette_read.specs.laws.Proposed.{AnyOf}
use Rattle.miette_read.specs.laws.Shown.{IsRowIn}
use Rattle.miette_tree.specs.rules.Diagnosis.{Diagnosis}
use Rattle.miette_tree.specs.rules.Tree.{Tree, head, related_of}

-- ---- what a message says itself

abbrev pub HasMessageParts : MessageParts → Diagnosis → Type 0
HasMessageParts said m =
    (m.message ≡ said.message) × (m.code ≡ said.code) × (m.severity ≡ Some said.severity) × (m.help ≡ said.help)
    × (m.url ≡ said.url)

-- ---- its other texts

abbrev pub IsFixOf : List ℕ → FixModel → Type 0
IsFixOf text fix = fix.message ≡ text

abbrev pub IsMessageOf : List ℕ → Tree → Type 0
IsMessageOf text t = (head t).message ≡ text

-- The text is in a label or cause text, is whole lines of the help, or is the message of a fix or of a related report.
abbrev pub IsInReport : Tree → List ℕ → Type 0
IsInReport t text =
    IsKept t text
    ⊎ (IsRowIn text (head t).help ⊎ (Any (IsFixOf text) (head t).fixes ⊎ AnyOf (IsMessageOf text) (related_of t)))
