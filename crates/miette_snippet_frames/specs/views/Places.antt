-- Positions in a source.
use Rattle.std.specs.Prelude.{ℕ}
use Rattle.miette_snippet_rules.specs.rules.Frames.{Place}

-- a line and a column as a position
abbrev pub place_at : ℕ × ℕ → Place
place_at p = record { line = p.0; column = p.1 }
