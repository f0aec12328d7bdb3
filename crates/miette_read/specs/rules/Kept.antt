-- A line of text is kept in a report.
use Rattle.std.specs.Prelude.{◌≡◌, ◌⊎◌, ℕ, List, ◌++◌, Option, Some, None}
use Rattle.std.specs.List.{Any}
use Rattle.miette_protocol.specs.views.Meaning.{Label}
use Rattle.miette_tree.specs.rules.Diagnosis.{Section}
use Rattle.miette_tree.specs.rules.DiagnosticParts.{given_labels}
use Rattle.miette_tree.specs.rules.Tree.{Tree, causes_of, cause_of, head}

-- `row` is a substring of `text`.
abbrev pub IsPart : List ℕ → List ℕ → Type 0
IsPart row text = (front : List ℕ) × (rest : List ℕ) × (text ≡ front ++ (row ++ rest))

abbrev pub IsPartOf : List ℕ → Option (List ℕ) → Type 0
IsPartOf row None = ⊥
IsPartOf row (Some text) = IsPart row text

abbrev pub IsInLabel : List ℕ → Label → Type 0
IsInLabel row l = IsPartOf row l.text

abbrev pub IsInSection : List ℕ → Section → Type 0
IsInSection row section = Any (IsInLabel row) section.labels

-- The line is in the text of a label over the source or over a further source, or in a cause text.
abbrev pub IsKept : Tree → List ℕ → Type 0
IsKept t row =
    Any (IsInLabel row) (given_labels (head t).labels)
    ⊎ (Any (IsInSection row) (head t).snippets ⊎ Any (IsPart row) (causes_of (cause_of t)))
