use Rattle.std.proofs.Common.{◌∙◌, ap, arith, max}
use Rattle.miette_snippet_folds.proofs.AroundLines.{untils_more, untils_none}
use Rattle.miette_snippet_folds.proofs.extent_index.untils_of.Goals as goal

pub loop-label-init : goal.loop-label-init
loop-label-init c = untils_none c.args.labels.now c.in_ok-made.made.items c.in_ok-made.ensures.items

pub loop-label-preserved : goal.loop-label-preserved
loop-label-preserved c = untils_more c.args.labels.now c.loop-label.made.items c.push.new.self.items
    c.loop-label.label-index c.loop-label.most c.max-most.result _ c.loop-label-test.true c.in_ok-push.ensures.items
    (c.max-most.ensures ∙ ap (λ n. max n c.loop-label.most) c.max.ensures) c.loop-label.invariant

pub returns-clause-until : goal.returns-clause-until
returns-clause-until c = λ j k d le lt.
    c.loop-label.invariant.until j k d le (omega (arith, lt, c.loop-label-test.false))
