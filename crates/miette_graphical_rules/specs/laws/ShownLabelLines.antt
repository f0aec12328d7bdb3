-- The lines of a label are shown.
use Rattle.std.specs.Prelude.{◌≤◌, ◌<◌, ℕ, List, length}
use Rattle.std.specs.List.{Contains}
use Rattle.miette_protocol.specs.rules.Reading.{reading_end}
use Rattle.miette_protocol.specs.views.Meaning.{Label}
use Rattle.miette_lines.specs.rules.Lines.{line_of, lines_of}

-- each line of a source from a label's first byte to its end is one of these
abbrev pub HasItsLines : List ℕ → List ℕ → Label → Type 0
HasItsLines bytes shown label = (k : ℕ) → line_of bytes label.span.offset ≤ k
    → k ≤ line_of bytes (reading_end bytes label.span) → k < length (lines_of bytes) → Contains shown k
