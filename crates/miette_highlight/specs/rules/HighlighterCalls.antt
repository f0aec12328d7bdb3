-- The calls of a highlighter, in order, and their results.
use Rattle.std.specs.Prelude.{◌≡◌, ℕ, Bool, not, ◌&&◌, is_none, if◌then◌else◌, List, [], ◌∷◌, ◌++◌}
use Rattle.miette_protocol.specs.rules.Reading.{Contents}
use Rattle.miette_highlight.specs.rules.Pieces.{StyledPiece}
use Rattle.miette_style.specs.declared.style.Style.{Style}

-- whether nothing is set in a style
abbrev pub is_unset : Style → Bool
is_unset style = is_none style.fg && not style.bold && not style.dimmed && not style.italic && not style.underline

-- the pieces of a line that are recorded; a single plain piece isn't
abbrev pub listed_pieces : List StyledPiece → List StyledPiece
listed_pieces [] = []
listed_pieces (p ∷ []) = if is_unset p.1 then [] else p ∷ []
listed_pieces (p ∷ q ∷ ps) = p ∷ q ∷ ps

-- A call of a highlighter: a restart with a read's contents, or a line of this text with the recorded pieces of the
-- result.
pub data Call : Type 0 where
  restarted : Contents → Call
  asked : List ℕ → List StyledPiece → Call

-- Calls lead from one state of a highlighter to another. A state is represented by the calls that may follow it: what
-- may follow the later state may follow the earlier one after these calls.
abbrev pub Leads : (List Call → Type 0) → List Call → (List Call → Type 0) → Type 0
Leads before calls after = (later : List Call) → after later → before (calls ++ later)

-- each line is highlighted independently: its pieces are a function of its text
abbrev pub AnsweredBy : (List ℕ → List StyledPiece) → List Call → Type 0
AnsweredBy answer [] = Unit {0}
AnsweredBy answer (restarted read ∷ calls) = AnsweredBy answer calls
AnsweredBy answer (asked line pieces ∷ calls) = (pieces ≡ listed_pieces (answer line)) × AnsweredBy answer calls
