use Rattle.std.proofs.Common.{sym, ap, ◌∙◌, map, Some}
use Rattle.miette_labels.specs.views.ProgramLabels.{label_at}
use Rattle.miette_labels.specs.declared.order.OrderedLabel.{OrderedLabel}
use Rattle.miette_brief.specs.rules.Locations.{marked_in}
use Rattle.miette_brief.proofs.Noting.{no_turn}
use Rattle.miette_brief.proofs.Choosing.{marked_here, marked_later, marked_none}
use Rattle.miette_brief.proofs.primary.marked_span.Goals as goal

pub returns-then-primary : goal.returns-then-primary
returns-then-primary c =
    let label = λ (turn : OrderedLabel). label_at c.args.labels.now turn.index in
    let order = c.args.order.now in
    ap Some c.inner.ensures ∙ marked_here label order c.loop-turn.turn-index no_turn c.label_of-label.result.now
    (marked_in (map label order)) c.loop-turn-test.true c.label_of-label.ensures
    (sym c.primary.ensures ∙ c.if-primary.true) c.loop-turn.invariant

pub loop-turn-preserved : goal.loop-turn-preserved
loop-turn-preserved c =
    let label = λ (turn : OrderedLabel). label_at c.args.labels.now turn.index in
    marked_later label c.args.order.now c.loop-turn.turn-index no_turn c.label_of-label.result.now _
    c.loop-turn-test.true c.label_of-label.ensures (sym c.primary.ensures ∙ c.if-primary.false) c.loop-turn.invariant

pub returns : goal.returns
returns c =
    let label = λ (turn : OrderedLabel). label_at c.args.labels.now turn.index in
    let order = c.args.order.now in
    marked_none label order c.loop-turn.turn-index (marked_in (map label order)) c.loop-turn-test.false
    c.loop-turn.invariant
