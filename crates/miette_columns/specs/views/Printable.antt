-- Printable ASCII and its cells.
use Rattle.std.specs.Prelude.{ℕ, ◌+◌, List, [], ◌∷◌, Bool, ◌&&◌, nat_le, nat_lt}
use Rattle.miette_columns.specs.rules.Cells.{Cell}

abbrev pub is_printable : ℕ → Bool
is_printable b = nat_le 0x20 b && nat_lt b 0x7F

-- each byte is a cell of one column
abbrev pub plain_cells : ℕ → ℕ → List ℕ → List Cell
plain_cells offset column [] = []
plain_cells offset column (b ∷ bytes) =
    record { code = b; start = offset; after = offset + 1; from = column; until = column + 1 }
    ∷ plain_cells (offset + 1) (column + 1) bytes
