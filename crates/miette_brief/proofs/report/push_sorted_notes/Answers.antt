use Rattle.std.proofs.Common.{◌∙◌, ◌<◌, ◌++◌, Some, List, sym, ap, subst, length, string_bytes}
use Rattle.std.specs.List.{All}
use Rattle.std.proofs.lemmas.Result.{on_ok_weaker}
use Rattle.miette_protocol.specs.views.Meaning.{Label}
use Rattle.miette_tree.specs.rules.Reads.{accepts}
use Rattle.miette_tree.specs.views.Owned.{ref_source}
use Rattle.miette_labels.specs.declared.order.OrderedLabel.{OrderedLabel}
use Rattle.miette_brief.specs.rules.Rows.{brief_rows_text}
use Rattle.miette_brief.specs.rules.Report.{note_rows}
use Rattle.miette_brief.specs.rules.PossibleAnswers.{HasAccepted}
use Rattle.miette_brief.proofs.LabelOrder.{order_kept}
use Rattle.miette_brief.proofs.report.push_sorted_notes.Goals as goal

pub push_notes-requires : goal.push_notes-requires
push_notes-requires g c = record {
  inside = subst (λ (turns : List OrderedLabel). All (λ turn. turn.index < length c.args.labels.now) turns)
      (sym c.deref.ensures.value) c.in_ok-order.ensures.inside;
}

pub returns-clause-text : goal.returns-clause-text
returns-clause-text g c =
    let source = Some (ref_source g.S.SourceCode.source c.args.source) in
    let ordered = order_kept c.args.labels.now _ _ c.deref.ensures.value c.in_ok-order.ensures.order in
    on_ok_weaker c.push_notes.result (λ h. h
    ∙ ap (λ ls. string_bytes c.args.out.now ++ brief_rows_text (note_rows source ls)) ordered) c.push_notes.ensures.text

pub returns-clause-accepted : goal.returns-clause-accepted
returns-clause-accepted g c =
    let source = Some (ref_source g.S.SourceCode.source c.args.source) in
    let ordered = order_kept c.args.labels.now _ _ c.deref.ensures.value c.in_ok-order.ensures.order in
    on_ok_weaker c.push_notes.result (λ h. subst (λ (ls : List Label). HasAccepted source ls) ordered h)
    c.push_notes.ensures.accepted

pub returns-clause-refused : goal.returns-clause-refused
returns-clause-refused g c = λ h.
    let source = Some (ref_source g.S.SourceCode.source c.args.source) in
    let ordered = order_kept c.args.labels.now _ _ c.deref.ensures.value c.in_ok-order.ensures.order in
    sym (ap (accepts source) ordered) ∙ c.push_notes.ensures.refused h
