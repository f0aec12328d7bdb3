-- Highlighters whose answers depend only on the calls before.
use Rattle.std.specs.Prelude.{◌≡◌, ℕ, List, ◌∷◌, ◌++◌}
use Rattle.miette_highlight.specs.rules.HighlighterCalls.{Call, asked}
use Rattle.miette_highlight.specs.rules.Pieces.{StyledPiece}

-- After the same calls, a line has the same pieces.
abbrev pub IsDetermined : (List Call → Type 0) → Type 0
IsDetermined follow =
    (earlier : List Call) (line : List ℕ) (some others : List StyledPiece) (later after : List Call)
    → follow (earlier ++ asked line some ∷ later) → follow (earlier ++ asked line others ∷ after) → some ≡ others
