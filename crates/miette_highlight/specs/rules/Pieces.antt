-- The pieces of a line.
use Rattle.std.specs.Prelude.{◌≡◌, ℕ, ◌+◌, List, [], ◌∷◌, length, drop}
use Rattle.std.specs.Str.{IsCharBoundary}
use Rattle.miette_style.specs.rules.Styles.{plain}
use Rattle.miette_style.specs.declared.style.Style.{Style}

-- a length in bytes, and the style of that part of the line
abbrev pub StyledPiece : Type 0
StyledPiece = ℕ × Style

-- The pieces make up the line: each ends at a character boundary, and the last one at the end.
abbrev pub CutsLine : List ℕ → List StyledPiece → Type 0
CutsLine line [] = line ≡ []
CutsLine line (p ∷ ps) = IsCharBoundary line p.0 × CutsLine (drop p.0 line) ps

-- the whole line as one plain piece
abbrev pub plain_pieces : List ℕ → List StyledPiece
plain_pieces line = (length line, plain) ∷ []

-- the total length of pieces in bytes
abbrev pub total_length : List StyledPiece → ℕ
total_length [] = 0
total_length (p ∷ ps) = p.0 + total_length ps

-- where each piece ends; the first one begins at an offset
abbrev pub ends_from : ℕ → List StyledPiece → List ℕ
ends_from at [] = []
ends_from at (p ∷ ps) = (at + p.0) ∷ ends_from (at + p.0) ps
