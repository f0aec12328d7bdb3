use Rattle.std.proofs.Common.{ap, map, ◌∙◌}
use Rattle.miette_labels.specs.declared.reading.ReadLabel.{ReadLabel}
use Rattle.miette_labels.proofs.ReadOrder.{all_in_order}
use Rattle.miette_labels.specs.views.ProgramLabels.{label_at}
use Rattle.miette_narrated.proofs.Reading.{refused_read}
use Rattle.miette_narrated.proofs.snippets.push_snippets.Goals as goal

pub push_read-requires-clause-order : goal.push_read-requires-clause-order
push_read-requires-clause-order g c =
    let labels = c.args.labels.now in
    ap (λ rs. map (λ (r : ReadLabel). label_at labels r.index) rs) c.deref-in-All.ensures.value
    ∙ all_in_order _ _ labels (map (λ turn. label_at labels turn.index) c.deref.result.now) c.in_ok-reads.field-0
    c.in-All.reads c.in_ok-reads.ensures c.in-All.is
    ∙ ap (λ order. map (λ turn. label_at labels turn.index) order) c.deref.ensures.value
    ∙ c.in_ok-order.ensures.order

pub returns-clause-refused : goal.returns-clause-refused
returns-clause-refused g c = λ h.
    refused_read c.args.context (g.S.SourceCode.source c.args.source.now) c.args.labels.now
    (map (λ turn. label_at c.args.labels.now turn.index) c.deref.result.now) c.in_ok-reads.field-0
    c.in-Refused.field-0 c.in-Refused.field-1
    c.in_ok-reads.ensures c.in-Refused.is (ap (λ turns. map (λ turn. label_at c.args.labels.now turn.index) turns)
    c.deref.ensures.value ∙ c.in_ok-order.ensures.order)
