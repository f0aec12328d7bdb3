-- Checkpoints of a line's text, from which a walk over its characters can begin.
use Rattle.std.specs.Prelude.{ℕ, Bool, ◌+◌, ◌≤◌, ◌≡◌, List, [], ◌∷◌, ◌++◌, length, drop, false}
use Rattle.std.specs.Prelude.{if◌then◌else◌}
use Rattle.unicode_width.specs.Width.{str_width, is_indicator}
use Rattle.miette_columns.specs.rules.Cells.{Character, characters}
use Rattle.miette_columns.specs.declared.overlap.Overlap.{Overlap}
use Rattle.miette_columns.specs.declared.overlap.Overlap.TheVariants.{Nothing, One, Selected}
use Rattle.miette_columns.specs.declared.checkpoints.Checkpoint.{Checkpoint}
use Rattle.miette_columns.specs.rules.Columns.{text_up_to, is_boundary, widths, column}

-- the characters before a checkpoint that a walk begins with
abbrev pub overlap_text : Overlap → List ℕ
overlap_text Nothing = []
overlap_text (One c) = c ∷ []
overlap_text (Selected c) = c ∷ 0xFE0F ∷ []

-- whether they end with a possible half flag
abbrev pub ends_in_flag : Overlap → Bool
ends_in_flag Nothing = false
ends_in_flag (One c) = is_indicator c
ends_in_flag (Selected c) = false

abbrev pub IsHeld : Overlap → Type 0
IsHeld first = ends_in_flag first ≡ false

-- the width of the characters that a walk begins with, which is counted twice
abbrev pub twice : Checkpoint → ℕ → List Character → ℕ
twice place bytes cs = if is_boundary bytes cs then place.twice else 0

-- the column `bytes` bytes after a checkpoint, plus what is counted twice
abbrev pub column_past : Checkpoint → ℕ → List Character → ℕ
column_past place bytes cs = if is_boundary bytes cs
    then place.column + str_width false (overlap_text place.overlap ++ text_up_to bytes cs)
    else place.widths + widths (text_up_to bytes cs)

-- columns after the checkpoint follow from its own column
abbrev pub IsCheckpoint : List ℕ → Checkpoint → Type 0
IsCheckpoint text place =
    (place.bytes ≤ length text)
    × (IsHeld place.overlap
    × ((more : ℕ) → column (place.bytes + more) (characters text)
    + twice place more (characters (drop place.bytes text))
    ≡ column_past place more (characters (drop place.bytes text))))
