use Rattle.std.proofs.Common.{◌∙◌, ap, map, option_map, sym}
use Rattle.std.proofs.lemmas.Result.{IfOk-weaker}
use Rattle.miette_snippet_cuts.specs.steps.LineParts.{made_underline}
use Rattle.miette_snippet_cuts.proofs.CutStretches.{marks_moved, marks_stay}
use Rattle.miette_snippet_cuts.proofs.cutting.underlines_in_row.Goals as goal

pub returns-in-Some : goal.returns-in-Some
returns-in-Some c =
    IfOk-weaker c.move_underlines.result _ _ (λ moved h. λ ruled is. marks_moved c.args.dots ruled _ c.args.marks.items
    moved.items
    (ap (option_map (λ made. made.items)) (sym c.in-Some.is) ∙ is)
    (h ∙ ap (λ xs. map (made_underline c.args.dots xs) c.deref-in-Some.result.now) c.deref.ensures.value
    ∙ ap (map (made_underline c.args.dots c.in-Some.cut.items)) c.deref-in-Some.ensures.value))
    c.move_underlines.ensures

pub returns : goal.returns
returns c = λ ruled is. marks_stay c.args.dots ruled c.args.marks.items
    (ap (option_map (λ made. made.items)) (sym c.in-None.is) ∙ is)
