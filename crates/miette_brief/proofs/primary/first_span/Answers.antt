use Rattle.std.proofs.Common.{sym, ◌∙◌, length}
use Rattle.std.proofs.lemmas.Bool.{eqb-true, eqb-false}
use Rattle.miette_labels.specs.views.ProgramLabels.{label_at}
use Rattle.miette_labels.specs.declared.order.OrderedLabel.{OrderedLabel}
use Rattle.miette_brief.proofs.Noting.{no_turn}
use Rattle.miette_brief.proofs.Choosing.{first_here, first_nil}
use Rattle.miette_brief.proofs.primary.first_span.Goals as goal

pub returns-then-is_empty : goal.returns-then-is_empty
returns-then-is_empty c =
    first_nil (λ turn. label_at c.args.labels.now turn.index) c.args.order.now
    (eqb-true (length c.args.order.now) 0 (sym c.is_empty.ensures ∙ c.if-is_empty.true))

pub returns : goal.returns
returns c =
    first_here (λ (turn : OrderedLabel). label_at c.args.labels.now turn.index) c.args.order.now no_turn
    c.span_of.result
    (eqb-false (length c.args.order.now) 0 (sym c.is_empty.ensures ∙ c.if-is_empty.false)) c.span_of.ensures
