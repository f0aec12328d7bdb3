-- Lines that fit, and the text that wrapping makes of them: each after an indent.
use Rattle.std.specs.Prelude.{◌≡◌, ℕ, ◌≤◌, Bool, true, not, ◌&&◌, List, [], ◌∷◌, ◌++◌}
use Rattle.miette_runs.specs.rules.Cells.{printed_columns}
use Rattle.miette_runs.specs.rules.Sequences.{is_line_feed, spell, tokens}
use Rattle.miette_text.specs.rules.Wrapping.{trimmed_row}

-- no line feed
abbrev pub is_row : List ℕ → Bool
is_row [] = true
is_row (c ∷ cs) = not (is_line_feed c) && is_row cs

-- a line of at most `room` columns, in any colours
abbrev pub FitsRow : ℕ → List ℕ → Type 0
FitsRow room row = (is_row row ≡ true) × (printed_columns (tokens row) ≤ room)

-- lines, each followed by a line feed
abbrev pub fed_rows : List (List ℕ) → List ℕ
fed_rows [] = []
fed_rows (row ∷ rows) = row ++ 10 ∷ fed_rows rows

-- a line without trailing spaces
abbrev pub bare_row : List ℕ → List ℕ
bare_row row = spell (trimmed_row (tokens row))

-- the same lines without trailing spaces, each after an indent
abbrev pub indented_rows : List ℕ → List (List ℕ) → List ℕ
indented_rows indent [] = []
indented_rows indent (row ∷ rows) = indent ++ bare_row row ++ 10 ∷ indented_rows indent rows
