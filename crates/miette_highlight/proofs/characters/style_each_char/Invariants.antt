use Rattle.std.proofs.Common.{List, ◌++◌}
use Rattle.std.specs.Str.{IsUtf8, chars}
use Rattle.miette_highlight.specs.rules.Pieces.{StyledPiece, CutsLine}
use Rattle.miette_highlight.specs.rules.Characters.{AreCharacters}
use Rattle.miette_highlight.proofs.characters.style_each_char.Given as goal

-- whatever cuts the rest of the line, after the pieces so far, is a cut of the line; and so with the styles
abbrev pub invariant-loop-c : goal.invariant-loop-c
invariant-loop-c g l = record {
  utf8 : IsUtf8 l.c-iterator.rest.now;
  cuts : (more : List StyledPiece) → CutsLine l.c-iterator.rest.now more → CutsLine l.fn.line (l.pieces.items ++ more);
  styles : (more : List StyledPiece) → AreCharacters (λ c s. goal.F-post g l.style_of c s) (chars l.c-iterator.rest.now)
      more
      → AreCharacters (λ c s. goal.F-post g l.style_of c s) (chars l.fn.line) (l.pieces.items ++ more);
}
