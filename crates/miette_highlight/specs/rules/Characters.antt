-- Pieces of one character each.
use Rattle.std.specs.Prelude.{◌≡◌, ℕ, List, [], ◌∷◌, ⊤}
use Rattle.std.specs.Char.{len_utf8}
use Rattle.miette_highlight.specs.rules.Pieces.{StyledPiece}
use Rattle.miette_style.specs.declared.style.Style.{Style}

-- a piece for each character, with its length and a style that fits it
abbrev pub AreCharacters : (ℕ → Style → Type 0) → List ℕ → List StyledPiece → Type 0
AreCharacters Goes [] [] = ⊤
AreCharacters Goes [] (p ∷ ps) = ⊥
AreCharacters Goes (c ∷ cs) [] = ⊥
AreCharacters Goes (c ∷ cs) (p ∷ ps) = (p.0 ≡ len_utf8 c) × Goes c p.1 × AreCharacters Goes cs ps
