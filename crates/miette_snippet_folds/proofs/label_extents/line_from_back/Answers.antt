use Rattle.std.proofs.Common.{ℕ, ◌≡◌, ◌+◌, ◌-◌, ap, ◌∙◌, refl}
use Rattle.std.proofs.lemmas.Result.{IfOk-weaker}
use Rattle.miette_snippet_folds.specs.steps.LineNumbers.{IsLineIn}
use Rattle.miette_snippet_folds.proofs.LineNumbers.{back_is}
use Rattle.miette_snippet_folds.proofs.label_extents.line_from_back.Goals as goal

pub returns : goal.returns
returns c =
    IfOk-weaker c.line_after.result (λ line. line ≡ c.args.contents.now.line + c.saturating_sub.result)
    (IsLineIn c.args.contents.now c.args.offset)
    (λ line e. back_is c.args.contents.now c.args.offset c.bytes_before-at.result c.line_of-ends.result
    c.saturating_sub.result line c.data-data.result.now _
    c.bytes_before-at.ensures c.data-data.ensures refl c.line_of-ends.ensures
    (c.saturating_sub.ensures ∙ ap (λ (n : ℕ). n - c.line_of-ends.result) c.line_count.ensures) e)
    c.line_after.ensures
