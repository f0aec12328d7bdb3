use Rattle.std.proofs.Common.{◌∙◌, Some, None, leb, refl, sym, true, false}
use Rattle.miette_lines.specs.views.Walking.{line_of_text}
use Rattle.miette_snippet_folds.proofs.NearFolds.{gap_none, gap_some}
use Rattle.miette_snippet_folds.proofs.gaps.gap_end.Goals as goal

pub returns-in_default : goal.returns-in_default
returns-in_default c =
    gap_none (line_of_text c.args.line.now) c.args.next c.args.folds.now None
    (c.in_default.ensures ∙ c.around_line-near.ensures.stop) refl

pub returns-then-some_goes_on : goal.returns-then-some_goes_on
returns-then-some_goes_on c =
    c.further.ensures
    ∙ gap_some (line_of_text c.args.line.now) c.args.next c.in-Some.end c.args.folds.now (Some c.in-Some.end) true
    (c.in-Some.ensures ∙ c.around_line-near.ensures.stop) refl
    (sym c.if-some_goes_on.true ∙ c.some_goes_on.ensures
    ∙ c.around_line-near.ensures.around (λ f. leb c.in-Some.end.offset f.label.until))

pub returns-else-some_goes_on : goal.returns-else-some_goes_on
returns-else-some_goes_on c =
    gap_some (line_of_text c.args.line.now) c.args.next c.in-Some.end c.args.folds.now (Some c.in-Some.end) false
    (c.in-Some.ensures ∙ c.around_line-near.ensures.stop) refl
    (sym c.if-some_goes_on.false ∙ c.some_goes_on.ensures
    ∙ c.around_line-near.ensures.around (λ f. leb c.in-Some.end.offset f.label.until))
