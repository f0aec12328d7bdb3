-- Tests for a text that should fit into one line.
use Rattle.std.specs.Prelude.{ℕ, Bool, true, ◌&&◌, ◌||◌, nat_le, nat_lt, List, [], ◌∷◌}
use Rattle.miette_text.specs.rules.Fitting.{ends_bare, has_ink, is_line}
use Rattle.miette_runs.specs.steps.Cells.{code_columns}

-- a line that fits into `room` columns and doesn't end with a space
abbrev pub fits_row : ℕ → List ℕ → Bool
fits_row room cs = is_line cs && (ends_bare true cs && nat_le (code_columns cs) room)

-- a line with a character that isn't white space
abbrev pub is_shown : List ℕ → Bool
is_shown cs = is_line cs && has_ink cs

-- not from the space to the tilde
abbrev pub is_other : ℕ → Bool
is_other c = nat_lt c 32 || nat_lt 126 c

-- only characters from the space to the tilde
abbrev pub all_printable : List ℕ → Bool
all_printable [] = true
all_printable (c ∷ cs) = (nat_le 32 c && nat_le c 126) && all_printable cs
