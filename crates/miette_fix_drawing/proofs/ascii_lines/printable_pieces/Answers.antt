use Rattle.std.proofs.Common.{◌∙◌, ap, arith}
use Rattle.std.proofs.lemmas.Result.{IfOk-weaker}
use Rattle.miette_fix_drawing.specs.steps.Pieces.{told}
use Rattle.miette_fix_drawing.proofs.ChangedTexts.{run_first}
use Rattle.miette_fix_drawing.proofs.ascii_lines.printable_pieces.Goals as goal

pub returns : goal.returns
returns c =
    let first = c.alike_from-first in
    IfOk-weaker c.pieces_past.result _ _ (λ _ h. h
    ∙ ap (told c.args.style) (run_first c.args.text.now c.args.spans.now first.result c.requires.printable (record {
      some = first.ensures.some;
      within = omega (arith, first.ensures.within);
      alike = first.ensures.alike;
    }))) c.pieces_past.ensures
