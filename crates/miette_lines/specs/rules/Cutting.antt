-- The lines of a source as a relation: consecutive pieces, each with text and terminator.
use Rattle.std.specs.Prelude.{◌≡◌, ◌≢◌, ℕ, ◌+◌, ◌<◌, ◌⊎◌, true, List, [], ◌∷◌, ◌++◌, length, slice_index, All}
use Rattle.miette_lines.specs.rules.Lines.{Line, LF, CR, is_text}

-- what ends a line before the remaining bytes: LF, CRLF, a CR that no LF follows, or the end of the bytes
abbrev pub IsTerminator : List ℕ → List ℕ → Type 0
IsTerminator end rest =
    (end ≡ LF ∷ []) ⊎ (end ≡ CR ∷ LF ∷ []) ⊎ ((end ≡ CR ∷ []) × (slice_index rest 0 ≢ LF)) ⊎ ((end ≡ []) × (rest ≡ []))

-- the bytes from an offset on are a line followed by the rest
pub record BeginsWith (at : ℕ) (l : Line) (bytes rest : List ℕ) : Type 0 where
  pub text : List ℕ
  pub terminator : List ℕ
  pub parts : bytes ≡ text ++ (terminator ++ rest)
  pub plain : All (λ b. is_text b ≡ true) text
  pub ended : IsTerminator terminator rest
  pub some : 0 < length text + length terminator
  pub start : l.start ≡ at
  pub text_end : l.text_end ≡ at + length text
  pub end : l.end ≡ at + (length text + length terminator)

-- the bytes from an offset on are these lines, one after the other
abbrev pub AreLines : ℕ → List Line → List ℕ → Type 0
AreLines at [] bytes = bytes ≡ []
AreLines at (l ∷ ls) bytes = (rest : List ℕ) × BeginsWith at l bytes rest × AreLines l.end ls rest
