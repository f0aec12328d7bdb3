-- A line's characters in pieces, cell by cell, as spans that end before them are dropped.
use Rattle.std.proofs.Common.{ℕ, ◌≤◌, ◌≡◌, List, [], ◌∷◌, ◌++◌, map, refl, sym, ap, subst, ◌∙◌, arith}
use Rattle.std.specs.List.{list_any}
use Rattle.std.proofs.lemmas.List.{map-append}
use Rattle.miette_style.specs.declared.style.Style.{Style}
use Rattle.miette_labels.specs.rules.Answers.{Highlight}
use Rattle.miette_protocol.specs.rules.Reading.{Span}
use Rattle.miette_columns.specs.rules.Cells.{Cell}
use Rattle.miette_snippet_rules.specs.rules.Highlighting.{highlight_of}
use Rattle.miette_snippet_rules.specs.rules.PrintedCells.{text_bytes}
use Rattle.miette_snippet_rules.specs.views.LineScans.{ComeFrom}
use Rattle.miette_fix_rows.specs.rules.DiffTexts.{holds_byte, prepend_piece, diff_pieces}
use Rattle.miette_fix_drawing.specs.declared.edit_pieces.DiffPiece.{DiffPiece as MadeDiffPiece}
use Rattle.miette_fix_drawing.specs.steps.Pieces.{prepend_pieces, piece, told}

-- two lists of spans that say the same of each cell from an offset on
abbrev pub AlikeFrom : ℕ → List Span → List Span → Type 0
AlikeFrom at left spans = (cell : Cell) → at ≤ cell.start
    → list_any (holds_byte cell) left ≡ list_any (holds_byte cell) spans

-- paint the cells from there on alike
pub painted_alike : (at low : ℕ) (left spans : List Span) (cells : List Cell) → AlikeFrom at left spans → at ≤ low
    → ComeFrom low cells → diff_pieces left cells ≡ diff_pieces spans cells
painted_alike at low left spans [] alike le come = refl
painted_alike at low left spans (cell ∷ cells) alike le come =
    let here : list_any (holds_byte cell) left ≡ list_any (holds_byte cell) spans =
    alike cell (omega (arith, le, come.0)) in
    ap (λ b. prepend_piece b (text_bytes cell.code) (diff_pieces left cells)) here
    ∙ ap (prepend_piece (list_any (holds_byte cell) spans) (text_bytes cell.code))
    (painted_alike at cell.after left spans cells alike (omega (arith, le, come.0, come.1)) come.2)

-- the first cell, and those after it
pub painted_next : (left spans : List Span) (cell : Cell) (walk later : List Cell) (next : MadeDiffPiece)
    → walk ≡ cell ∷ later → ComeFrom 0 walk → AlikeFrom cell.start left spans
    → next.changed ≡ list_any (holds_byte cell) left → next.bytes ≡ text_bytes cell.code
    → prepend_pieces next (diff_pieces left later) ≡ diff_pieces spans walk
painted_next left spans cell walk later next step come alike changed bytes =
    let from : ComeFrom 0 (cell ∷ later) = subst (λ (cs : List Cell). ComeFrom 0 cs) step come in
    ap (λ b. prepend_piece b next.bytes (diff_pieces left later)) (changed ∙ alike cell (omega arith))
    ∙ ap (λ n. prepend_piece (list_any (holds_byte cell) spans) n (diff_pieces left later)) bytes
    ∙ ap (prepend_piece (list_any (holds_byte cell) spans) (text_bytes cell.code))
    (painted_alike cell.start cell.after left spans later alike (omega (arith, from.1)) from.2)
    ∙ ap (diff_pieces spans) (sym step)

from_start : (at : ℕ) (cells : List Cell) → ComeFrom at cells → ComeFrom 0 cells
from_start at [] come = tt
from_start at (cell ∷ cells) come = (omega arith, come.1, come.2)

pub come_next : (cell : Cell) (walk later : List Cell) → walk ≡ cell ∷ later → ComeFrom 0 walk → ComeFrom 0 later
come_next cell walk later step come =
    let from : ComeFrom 0 (cell ∷ later) = subst (λ (cs : List Cell). ComeFrom 0 cs) step come in
    from_start cell.after later from.2

-- the last piece
pub pieces_end : (style : Style) (items new : List (ℕ × Style)) (last : ℕ × Style) (reached : MadeDiffPiece)
    (spans : List Span) (walk : List Cell) (all : List Highlight) → walk ≡ [] → new ≡ items ++ last ∷ []
    → highlight_of last ≡ piece style reached
    → map highlight_of items ++ told style (prepend_pieces reached (diff_pieces spans walk)) ≡ all
    → map highlight_of new ≡ all
pieces_end style items new last reached spans walk all done n h told_so =
    ap (map highlight_of) n ∙ map-append highlight_of items (last ∷ [])
    ∙ ap (λ p. map highlight_of items ++ p ∷ []) h
    ∙ ap (λ cs. map highlight_of items ++ told style (prepend_pieces reached (diff_pieces spans cs))) (sym done)
    ∙ told_so
