-- What follows for pieces that make up a line.
use Rattle.std.proofs.Common.{◌≡◌, refl, ℕ, ◌+◌, ◌-◌, ◌≤◌, List, [], ◌∷◌, length, drop, All, arith, sym, ap, ◌∙◌, subst}
use Rattle.std.specs.Str.{IsCharBoundary}
use Rattle.std.proofs.lemmas.List.{length-drop, drop-drop}
use Rattle.std.proofs.lemmas.List.Elements.{All-cons}
use Rattle.std.proofs.lemmas.Str.{IsCharBoundary-from_rest}
use Rattle.miette_highlight.specs.rules.Pieces.{StyledPiece, CutsLine, total_length, ends_from}

pub total_length-line : (line : List ℕ) (pieces : List StyledPiece) → CutsLine line pieces → total_length pieces
    ≡ length line
total_length-line line [] h = sym (ap length h)
total_length-line line (p ∷ ps) h =
    let rest : total_length ps ≡ length line - p.0 = total_length-line (drop p.0 line) ps h.1 ∙ length-drop p.0 line in
    let within : p.0 ≤ length line = h.0.0 in
    omega arith

-- the pieces of what follows a place end at boundaries of the whole
ends-are : (whole line : List ℕ) (at : ℕ) (pieces : List StyledPiece) → at ≤ length whole → drop at whole ≡ line
    → CutsLine line pieces
    → All (IsCharBoundary whole) (ends_from at pieces)
ends-are whole line at [] within e h = λ k d l. elim l [ ]
ends-are whole line at (p ∷ ps) within e h =
    let P : List ℕ → Type 0 = λ t. IsCharBoundary t p.0 in
    let here : IsCharBoundary whole (at + p.0) = IsCharBoundary-from_rest whole at p.0 within (subst P (sym e) h.0) in
    All-cons (IsCharBoundary whole) (at + p.0) (ends_from (at + p.0) ps) here
    (ends-are whole (drop p.0 line) (at + p.0) ps here.0 (sym (drop-drop p.0 at whole) ∙ ap (drop p.0) e) h.1)

pub ends-boundaries : (line : List ℕ) (pieces : List StyledPiece) → CutsLine line pieces
    → All (IsCharBoundary line) (ends_from 0 pieces)
ends-boundaries line pieces h = ends-are line line 0 pieces (omega arith) refl h
