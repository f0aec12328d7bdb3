use Rattle.std.proofs.Common.{List, ◌++◌, length}
use Rattle.std.specs.Prelude.{Option}
use denote.Shadow.{shadow}
use denote.Text.{Utf8}
use Rattle.miette_highlight.specs.rules.Pieces.{StyledPiece}
use Rattle.miette_highlight.specs.rules.Tokens.{AreTokens}
use Rattle.miette_highlight.specs.declared.tokens.OpenPart.{OpenPart}
use Rattle.miette_highlight.proofs.tokens.pieces_of.Given as goal

-- the tokens of the rest, after the pieces so far, are the tokens of the line
abbrev pub invariant-loop-rest : goal.invariant-loop-rest
invariant-loop-rest l = ((more : List StyledPiece) (after : Option OpenPart)
    → AreTokens l.rules l.left l.rest more after
    → AreTokens l.rules l.fn.left_open l.fn.line (l.pieces.items ++ more) after) × shadow (Utf8 l.rest)

abbrev pub decreases-loop-rest : goal.decreases-loop-rest
decreases-loop-rest l = length l.rest
