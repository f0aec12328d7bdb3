-- The texts of a ShellCheck comment other than its message: those of its suggestion.
use Rattle.std.specs.Prelude.{ℕ, List, [], ◌∷◌}
use Rattle.serde_json.specs.Data.{Data}
use Rattle.miette_read_shellcheck.specs.rules.Comments.{replacements_of, replacements_message}

-- The message of the suggestion, if there are replacements.
abbrev pub proposal_texts : List Data → List (List ℕ)
proposal_texts [] = []
proposal_texts (x ∷ xs) = replacements_message (x ∷ xs) ∷ []

abbrev pub texts_of : Data → List (List ℕ)
texts_of c = proposal_texts (replacements_of c)
