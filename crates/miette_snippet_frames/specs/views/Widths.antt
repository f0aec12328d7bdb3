-- The widths of line numbers and gutters.
use Rattle.std.specs.Prelude.{ℕ, ◌+◌, ◌==◌, if◌then◌else◌, length, decimal}

-- the number of digits of the last of `many` lines after `before` others; 1 without lines
abbrev pub width_of_count : ℕ → ℕ → ℕ
width_of_count before many = if many == 0 then 1 else length (decimal (before + many))

-- the width of a gutter for at most `most` labels
abbrev pub gutter_of : ℕ → ℕ
gutter_of most = if most == 0 then 0 else most + 3
