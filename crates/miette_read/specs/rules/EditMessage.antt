-- The messages of suggestions for which the tool gives none.
use Rattle.std.specs.Prelude.{ℕ, List, [], ◌∷◌, ◌++◌, ◌==◌, codes, if◌then◌else◌}

-- The text without its final line feed.
abbrev pub without_end : List ℕ → List ℕ
without_end [] = []
without_end (b ∷ []) = if b == 10 then [] else b ∷ []
without_end (b ∷ (c ∷ cs)) = b ∷ without_end (c ∷ cs)

-- The message of a suggestion with one edit, from its replacement text.
abbrev pub edit_message : List ℕ → List ℕ
edit_message [] = codes "delete this"
edit_message (b ∷ bs) = codes "write `" ++ (without_end (b ∷ bs) ++ codes "`")
