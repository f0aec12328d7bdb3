use Rattle.std.proofs.Common.{◌∙◌, ap, sym}
use Rattle.std.proofs.lemmas.Result.{IfOk-weaker}
use Rattle.miette_snippet_rules.proofs.PlainCells.{printable_cells}
use Rattle.miette_fix_rows.specs.rules.DiffTexts.{pieces}
use Rattle.miette_fix_drawing.proofs.ascii_lines.changed_pieces.Goals as goal

pub returns-then-all_printable : goal.returns-then-all_printable
returns-then-all_printable c =
    let text = c.args.text.now in
    IfOk-weaker c.printable_pieces.result _ _ (λ _ h. h
    ∙ ap (pieces c.args.style c.args.spans.now)
    (sym (printable_cells text.tab text.start 0 text.bytes.now
    (sym c.all_printable.ensures ∙ c.if-all_printable.true))))
    c.printable_pieces.ensures
