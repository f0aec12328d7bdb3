use Rattle.std.proofs.Common.{◌≡◌, ◌∷◌, ◌∙◌, ap, false, refl, rules}
use Rattle.std.proofs.lemmas.Result.{IfOk-weaker}
use Rattle.miette_columns.specs.rules.Widths.{width_of}
use Rattle.miette_columns.specs.views.Walking.{cell_of}
use Rattle.miette_snippet_rules.specs.views.LineTexts.{text_cells}
use Rattle.miette_snippet_rules.proofs.PassedCells.{cells_come}
use Rattle.miette_fix_drawing.specs.steps.Pieces.{told}
use Rattle.miette_fix_drawing.proofs.PaintedCells.{come_next, painted_next}
use Rattle.miette_fix_drawing.proofs.edit_pieces.pieces_of.Goals as goal

pub pieces_after-requires-clause-come : goal.pieces_after-requires-clause-come
pieces_after-requires-clause-come c =
    let step : text_cells c.args.text.now ≡ cell_of c.in-Some.cell ∷ c.next.new.self = search rules in
    come_next (cell_of c.in-Some.cell) (text_cells c.args.text.now) c.next.new.self step
    (cells_come width_of c.args.text.now.tab false c.args.text.now.start 0 c.args.text.now.bytes.now)

pub returns : goal.returns
returns c =
    let step : text_cells c.args.text.now ≡ cell_of c.in-Some.cell ∷ c.next.new.self = search rules in
    IfOk-weaker c.pieces_after.result _ _ (λ _ h. h
    ∙ ap (told c.args.style) (painted_next c.args.spans.now c.args.spans.now (cell_of c.in-Some.cell)
    (text_cells c.args.text.now) c.next.new.self c.piece_of_cell-first.result step
    (cells_come width_of c.args.text.now.tab false c.args.text.now.start 0 c.args.text.now.bytes.now)
    (λ cell le. refl) c.piece_of_cell-first.ensures.changed c.piece_of_cell-first.ensures.bytes)) c.pieces_after.ensures
