use Rattle.std.proofs.Common.{sym, ◌∙◌, true, not}
use Rattle.miette_lines.specs.views.Walking.{line_of_text}
use Rattle.miette_snippet_rules.specs.rules.FoldedLabels.{hides}
use Rattle.miette_snippet_folds.proofs.LeftOutLines.{left_near, left_far}
use Rattle.miette_snippet_folds.proofs.NearFolds.{around_alone}
use Rattle.miette_snippet_folds.proofs.left_out.is_hidden.Goals as goal

pub returns-then-some_near : goal.returns-then-some_near
returns-then-some_near c =
    left_near c.args.limit c.args.place (line_of_text c.args.line.now) c.args.folds.now
    (sym (c.around_line-near.ensures.around (λ f. not (hides c.args.limit f.first f.last f.label.around c.args.place)))
    ∙ sym c.some_near.ensures ∙ c.if-some_near.true)

pub returns : goal.returns
returns c =
    let line = line_of_text c.args.line.now in
    left_far c.args.limit c.args.place line c.args.folds.now c.some_around.result
    (sym (c.around_line-near.ensures.around (λ f. not (hides c.args.limit f.first f.last f.label.around c.args.place)))
    ∙ sym c.some_near.ensures ∙ c.if-some_near.false)
    (c.some_around.ensures ∙ around_alone line c.around_line-near.result.folds.now
    ∙ c.around_line-near.ensures.around (λ f. true) ∙ sym (around_alone line c.args.folds.now))
