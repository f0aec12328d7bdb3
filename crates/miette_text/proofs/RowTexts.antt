-- What rows print, row by row.
use Rattle.std.proofs.Common.{ℕ, ◌&&◌, not, if◌then◌else◌, List, [], ◌∷◌, ◌++◌}
use Rattle.std.specs.List.{concat}
use Rattle.miette_text.specs.rules.Wrapping.{is_space}
use Rattle.miette_runs.specs.rules.Cells.{TaggedChar}
use Rattle.miette_text.specs.steps.Ends.{all_spaces}

-- a row without its last spaces
abbrev pub shown : List TaggedChar → List ℕ
shown [] = []
shown (c ∷ cs) = concat c.tags ++ ((if not (is_space c.code && all_spaces cs) then c.code ∷ [] else []) ++ shown cs)

abbrev pub lines_of : List (List ℕ) → List (List TaggedChar) → List (List ℕ)
lines_of rest [] = []
lines_of rest (r ∷ rs) = elim rs [ [] ↦ (shown r ++ concat rest) ∷ [] | s ∷ ss ↦ shown r ∷ lines_of rest rs ]

-- lines below the first
abbrev pub after_row : List ℕ → List (List ℕ) → List ℕ
after_row further [] = []
after_row further (r ∷ rs) = (10 ∷ further) ++ (r ++ after_row further rs)

abbrev pub joined_lines : List ℕ → List ℕ → List (List ℕ) → List ℕ
joined_lines indent further [] = []
joined_lines indent further (r ∷ rs) = indent ++ (r ++ after_row further rs)
