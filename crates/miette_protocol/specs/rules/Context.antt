-- The lines of a span and its context.
use Rattle.std.specs.Prelude.{ℕ, ◌+◌, ◌-◌, List}
use Rattle.miette_lines.specs.rules.Lines.{line_of}
use Rattle.miette_protocol.specs.rules.Reading.{Span, reading_end}

-- the number of the first line
abbrev pub first_line : List ℕ → Span → ℕ → ℕ
first_line bytes span before = line_of bytes span.offset - before

-- the number of the last line; the source may have fewer lines
abbrev pub last_line : List ℕ → Span → ℕ → ℕ
last_line bytes span after = line_of bytes (reading_end bytes span) + after
