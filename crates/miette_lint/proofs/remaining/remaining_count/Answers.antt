use Rattle.std.proofs.Common.{◌∙◌}
use Rattle.miette_lint.proofs.LeftSteps.{left_counted, left_few}
use Rattle.miette_lint.proofs.remaining.remaining_count.Goals as goal

pub returns-clause-count : goal.returns-clause-count
returns-clause-count c =
    left_counted c.args.source.now c.args.width _ c.wide_count.result
    (c.as_slice.ensures.value ∙ c.in_ok-text.ensures.text) c.wide_count.ensures

pub returns-clause-within : goal.returns-clause-within
returns-clause-within c =
    left_few c.args.source.now c.args.width _ c.wide_count.result
    (c.as_slice.ensures.value ∙ c.in_ok-text.ensures.text) c.wide_count.ensures
