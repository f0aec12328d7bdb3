use Rattle.std.proofs.Common.{◌∙◌, ◌++◌, ap, append_assoc, sym}
use Rattle.std.proofs.lemmas.List.{take_rest}
use Rattle.std.proofs.lemmas.Result.{on_ok_weaker}
use Rattle.miette_runs.specs.rules.Cells.{piece_text}
use Rattle.miette_runs.specs.views.Interleaving.{cells_at, left_at, tags_spelled}
use Rattle.miette_runs.proofs.Weaving.{spell-woven}
use Rattle.miette_runs.proofs.runs.cells.push_runs_slice.Goals as goal

pub returns : goal.returns
returns g c =
    let cs = c.args.runs.codes.now in
    let ms = c.args.runs.tags.now in
    let o = g.S.Canvas.written c.args.out.now in
    let cells = piece_text (cells_at 0 cs ms) in
    let left = tags_spelled (left_at 0 cs ms) in
    on_ok_weaker c.push_tags.result (λ h. h
    ∙ ap (λ vs. g.S.Canvas.written c.push_cells.new.out ++ tags_spelled vs)
    (take_rest ms c.in_ok-n.n ∙ c.in_ok-n.ensures.left)
    ∙ ap (λ us. us ++ left) c.in_ok-n.ensures.text
    ∙ append_assoc o cells left
    ∙ ap (λ us. o ++ us) (sym (spell-woven 0 cs ms))) c.push_tags.ensures
