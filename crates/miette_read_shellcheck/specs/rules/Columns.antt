-- Lines and columns as ShellCheck counts them: one-based, with columns in characters. Only LF ends a line. CR is a
-- character of its line.
use Rattle.std.specs.Prelude.{ℕ, zero, suc, ◌+◌, ◌-◌, List, [], ◌∷◌, Option, None, Some, ◌||◌, ◌==◌, if◌then◌else◌}
use Rattle.std.specs.Prelude.{drop, option_map}
use Rattle.miette_columns.specs.rules.Cells.{Character, characters}
use Rattle.miette_lines.specs.rules.Lines.{LF}

-- The start of the line `lines` lines after the first one. `bytes` start at offset `at`.
abbrev pub nth_line_start : ℕ → List ℕ → ℕ → Option ℕ
nth_line_start at bytes zero = Some at
nth_line_start at [] (suc k) = None
nth_line_start at (b ∷ bs) (suc k) = nth_line_start (at + 1) bs (if b == LF then k else suc k)

-- The offset `count` characters after `at`, or the end of the line's text if that comes first.
abbrev pub characters_on : ℕ → ℕ → List Character → ℕ
characters_on at count [] = at
characters_on at count (c ∷ cs) =
    if (count == 0) || (c.code == LF) then at else characters_on (at + c.bytes) (count - 1) cs

abbrev pub characters_after : List ℕ → ℕ → ℕ → ℕ
characters_after bytes at count = characters_on at count (characters (drop at bytes))

-- The offset of a column of a line. Both are one-based.
abbrev pub offset_at : List ℕ → ℕ → ℕ → Option ℕ
offset_at bytes zero column = None
offset_at bytes (suc line) zero = None
offset_at bytes (suc line) (suc column) =
    option_map (λ start. characters_after bytes start column) (nth_line_start 0 bytes line)
