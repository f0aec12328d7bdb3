-- The calls of a highlighter made of rules.
use Rattle.std.specs.Prelude.{◌≡◌, Option, None, List, [], ◌∷◌}
use Rattle.miette_highlight.specs.rules.HighlighterCalls.{Call, asked, listed_pieces, restarted}
use Rattle.miette_highlight.specs.rules.Pieces.{StyledPiece}
use Rattle.miette_highlight.specs.rules.Tokens.{AreTokens}
use Rattle.miette_highlight.specs.declared.rule.Rule.{Rule}
use Rattle.miette_highlight.specs.declared.tokens.OpenPart.{OpenPart}

-- Each line is split into its tokens, and the next line continues with the part that it leaves open. A restart closes
-- that part.
abbrev pub FollowTokens : List Rule → Option OpenPart → List Call → Type 0
FollowTokens rules left_open [] = Unit {0}
FollowTokens rules left_open (restarted read ∷ calls) = FollowTokens rules None calls
FollowTokens rules left_open (asked line listed ∷ calls) =
    (pieces : List StyledPiece) × (after : Option OpenPart) × AreTokens rules left_open line pieces after
    × (listed ≡ listed_pieces pieces) × FollowTokens rules after calls
