-- The texts of a rustc message other than its own message.
use Rattle.std.specs.Prelude.{◌≡◌, ◌⊎◌, ℕ, List, ◌∷◌, ◌++◌, Option, Some, None, codes}
use Rattle.std.specs.List.{flat_map}
use Rattle.serde_json.specs.Data.{Data}
use Rattle.miette_read.specs.rules.Members.{member_objects}
use Rattle.miette_read.specs.rules.Rustc.{label_rows, message_of}
use Rattle.miette_read.specs.laws.Shown.{EndsRow}
use Rattle.miette_read.specs.laws.MessageTexts.{IsInReport}
use Rattle.miette_tree.specs.rules.Tree.{Tree, head}

-- The labels of the spans of a message or of a child.
abbrev pub span_texts : Data → List (List ℕ)
span_texts d = flat_map label_rows (member_objects (codes "spans") d)

-- The message and span labels of a note, help or suggestion.
abbrev pub child_texts : Data → List (List ℕ)
child_texts c = message_of c ∷ span_texts c

abbrev pub texts_of : Data → List (List ℕ)
texts_of d = span_texts d ++ flat_map child_texts (member_objects (codes "children") d)

-- ---- where they stand

-- The text is on a line of the help, before the suggested replacements.
abbrev pub IsBefore : List ℕ → List ℕ → Type 0
IsBefore text help =
    (front : List ℕ) × (rest : List ℕ) × (help ≡ front ++ (text ++ (codes ": `" ++ rest))) × EndsRow front

abbrev pub IsBeforeIn : List ℕ → Option (List ℕ) → Type 0
IsBeforeIn text None = ⊥
IsBeforeIn text (Some help) = IsBefore text help

-- The text is in the report like the texts of any tool, or before suggested replacements in the help.
abbrev pub IsTextInReport : Tree → List ℕ → Type 0
IsTextInReport t text = IsInReport t text ⊎ IsBeforeIn text (head t).help
