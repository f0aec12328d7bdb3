use Rattle.std.proofs.Common.{rules, ◌≡◌, ◌<◌, List, sym, subst, string_bytes, map, length}
use Rattle.std.specs.List.{All}
use Rattle.std.specs.Option.{option_map}
use Rattle.miette_protocol.specs.views.Meaning.{Label}
use Rattle.miette_tree.specs.rules.Tree.{head}
use Rattle.miette_tree.specs.views.Owned.{ref_source}
use Rattle.miette_tree.specs.views.Report.{tree_of}
use Rattle.miette_labels.specs.declared.order.OrderedLabel.{OrderedLabel}
use Rattle.miette_labels.specs.rules.Groups.{in_order}
use Rattle.miette_labels.specs.views.ProgramLabels.{label_at}
use Rattle.miette_brief.proofs.Telling.{further_order_refused, labelled, order_refused, own_order_refused}
use Rattle.miette_brief.proofs.report.push_labelled.Goals as goal

abbrev label : List Label → OrderedLabel → Label
label labels turn = label_at labels turn.index

pub diagnostic_location-requires : goal.diagnostic_location-requires
diagnostic_location-requires g c = record {
  inside = subst (λ (ls : List Label). All (λ turn. turn.index < length ls) c.args.order.now)
      (sym c.labels_of-labels.ensures) c.requires.inside;
}

pub push_notes-requires : goal.push_notes-requires
push_notes-requires g c = record {
  inside = subst (λ (ls : List Label). All (λ turn. turn.index < length ls) c.args.order.now)
      (sym c.labels_of-labels.ensures) c.requires.inside;
}

pub returns-clause-text : goal.returns-clause-text
returns-clause-text g c =
    let m = head (tree_of g.D.Diagnostic.meaning g.S.SourceCode.source c.args.report.now) in
    let source = option_map (ref_source g.S.SourceCode.source) c.args.source in
    let labels = c.labels_of-labels.result.now in
    let ordered : map (label labels) c.args.order.now ≡ in_order labels =
    subst (λ (ls : List Label). map (label ls) c.args.order.now ≡ in_order ls) (sym c.labels_of-labels.ensures)
    c.requires.ordered in
    labelled source m labels (map (label labels) c.args.order.now) _ _ (string_bytes c.args.out.now)
    (string_bytes c.push_head.new.out) (string_bytes c.push_notes.new.out) (string_bytes c.push_further_notes.new.out)
    c.labels_of-labels.ensures ordered c.further_snippets-further.ensures
    c.in_ok-at.ensures.place c.in_ok-push_head.ensures c.in_ok-push_notes.ensures.text
    c.in_ok-push_notes.ensures.accepted c.in_ok-push_further_notes.ensures.text
    c.in_ok-push_further_notes.ensures.accepted

pub returns-in_err-at-clause-refused : goal.returns-in_err-at-clause-refused
returns-in_err-at-clause-refused g c = λ h.
    order_refused label (option_map (ref_source g.S.SourceCode.source) c.args.source) c.labels_of-labels.result.now _
    c.args.order.now c.labels_of-labels.ensures c.requires.ordered _ _ c.further_snippets-further.ensures
    (c.in_err-at.ensures.refused (search rules))

pub returns-in_err-push_notes-clause-refused : goal.returns-in_err-push_notes-clause-refused
returns-in_err-push_notes-clause-refused g c = λ h.
    own_order_refused label (option_map (ref_source g.S.SourceCode.source) c.args.source)
    c.labels_of-labels.result.now _ c.args.order.now c.labels_of-labels.ensures c.requires.ordered _ _
    c.further_snippets-further.ensures (c.in_err-push_notes.ensures.refused (search rules))

pub returns-in_err-push_further_notes-clause-refused : goal.returns-in_err-push_further_notes-clause-refused
returns-in_err-push_further_notes-clause-refused g c = λ h.
    further_order_refused label (option_map (ref_source g.S.SourceCode.source) c.args.source)
    c.labels_of-labels.result.now _ c.args.order.now c.labels_of-labels.ensures c.requires.ordered _ _
    c.further_snippets-further.ensures (c.in_err-push_further_notes.ensures.refused (search rules))
