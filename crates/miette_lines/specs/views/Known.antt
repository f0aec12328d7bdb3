-- An offset whose line is known.
use Rattle.std.specs.Prelude.{◌≡◌, ℕ, ◌≤◌, List, length}
use Rattle.miette_lines.specs.rules.Lines.{line_of}
use Rattle.miette_lines.specs.declared.near.KnownLine.{KnownLine}

pub record IsKnown (bytes : List ℕ) (known : KnownLine) : Type 0 where
  pub within : known.offset ≤ length bytes
  pub line : known.line ≡ line_of bytes known.offset
