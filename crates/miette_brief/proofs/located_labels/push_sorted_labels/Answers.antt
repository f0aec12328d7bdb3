use Rattle.std.proofs.Common.{◌∙◌, ◌<◌, ◌++◌, List, sym, ap, subst, map, length}
use Rattle.std.specs.List.{All}
use Rattle.std.specs.Option.{option_map}
use Rattle.std.proofs.lemmas.Result.{on_ok_weaker}
use Rattle.miette_protocol.specs.views.Meaning.{Label}
use Rattle.miette_tree.specs.rules.Reads.{accepts}
use Rattle.miette_tree.specs.views.Owned.{ref_source}
use Rattle.miette_labels.specs.declared.order.OrderedLabel.{OrderedLabel}
use Rattle.miette_brief.specs.rules.LocatedLabels.{located_label}
use Rattle.miette_brief.specs.rules.PossibleAnswers.{HasAccepted}
use Rattle.miette_brief.specs.steps.CommandParts.{located_label_of}
use Rattle.miette_brief.proofs.LabelOrder.{order_kept}
use Rattle.miette_brief.proofs.located_labels.push_sorted_labels.Goals as goal

pub push_located_labels-requires : goal.push_located_labels-requires
push_located_labels-requires g c = record {
  inside = subst (λ (turns : List OrderedLabel). All (λ turn. turn.index < length c.args.labels.now) turns)
      (sym c.deref.ensures.value) c.in_ok-order.ensures.inside;
}

pub returns-clause-marks : goal.returns-clause-marks
returns-clause-marks g c =
    let is = g.S.SourceCode.source in
    let source = option_map (ref_source is) c.args.source in
    let ordered = order_kept c.args.labels.now _ _ c.deref.ensures.value c.in_ok-order.ensures.order in
    on_ok_weaker c.push_located_labels.result (λ h. h
    ∙ ap (λ ls. map (located_label_of is) c.args.marks.now.items ++ map (located_label source) ls) ordered)
    c.push_located_labels.ensures.marks

pub returns-clause-accepted : goal.returns-clause-accepted
returns-clause-accepted g c =
    let source = option_map (ref_source g.S.SourceCode.source) c.args.source in
    let ordered = order_kept c.args.labels.now _ _ c.deref.ensures.value c.in_ok-order.ensures.order in
    on_ok_weaker c.push_located_labels.result (λ h. subst (λ (ls : List Label). HasAccepted source ls) ordered h)
    c.push_located_labels.ensures.accepted

pub returns-clause-refused : goal.returns-clause-refused
returns-clause-refused g c = λ h.
    let source = option_map (ref_source g.S.SourceCode.source) c.args.source in
    let ordered = order_kept c.args.labels.now _ _ c.deref.ensures.value c.in_ok-order.ensures.order in
    sym (ap (accepts source) ordered) ∙ c.push_located_labels.ensures.refused h
