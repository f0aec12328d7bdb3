-- An index of the line ends of a source.
use Rattle.std.specs.Prelude.{◌≡◌, ℕ, ◌<◌, List, length, slice_index}
use Rattle.miette_lines.specs.rules.Lines.{line_of, line_end}

-- one end for each line with a terminator, in order
pub record IsIndex (bytes ends : List ℕ) : Type 0 where
  pub all : length ends ≡ line_of bytes (length bytes)
  pub each : (k : ℕ) → k < length ends → slice_index ends k ≡ line_end bytes k
