-- The lines of a source by number. They end like the lines of snippets.
use Rattle.std.specs.Prelude.{ℕ, zero, suc, List, Option, Some, None, if◌then◌else◌, length, nat_le}
use Rattle.miette_lines.specs.rules.Lines.{line_of, line_start}

-- The zero-based number of the last line. That line is empty if the bytes end with a line terminator.
abbrev pub last_line_number : List ℕ → ℕ
last_line_number bytes = line_of bytes (length bytes)

-- The offset of a line's start, in bytes. Line numbers are one-based.
abbrev pub numbered_line_start : List ℕ → ℕ → Option ℕ
numbered_line_start bytes zero = None
numbered_line_start bytes (suc k) = if nat_le k (last_line_number bytes) then Some (line_start bytes k) else None
