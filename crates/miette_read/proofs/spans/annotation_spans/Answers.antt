use Rattle.std.proofs.Common.{[], ◌∷◌, List, Bor, filter, map, ap, sym, ◌∙◌}
use Rattle.std.proofs.lemmas.List.{map-append, take_all}
use Rattle.serde_json.specs.View.{view}
use Rattle.serde_json.specs.declared.value.Value.{Value}
use Rattle.miette_read.specs.rules.Rustc.{is_annotation}
use Rattle.miette_read.specs.views.Values.{values_behind}
use Rattle.miette_read.proofs.Steps.{kept_more, kept_no_more}
use Rattle.miette_read.proofs.spans.annotation_spans.Goals.{then-is_annotation+in_ok-push_item, else-is_annotation}
use Rattle.miette_read.proofs.spans.annotation_spans.Goals as goal

pub loop-span-preserved : goal.loop-span-preserved
loop-span-preserved c =
    let l = c.loop-span in
    let x = c.span-item.result in
    let look = λ (v : Bor Value). view v.now in
    elim c.if-is_annotation.branch [
      | then-is_annotation+in_ok-push_item w ↦
          kept_more look c.args.spans.now l.span-index x c.loop-span-test.true c.span-item.is is_annotation []
          (values_behind l.list.items) (values_behind c.if-is_annotation.list.items)
          (sym c.is_annotation.ensures ∙ w.if-is_annotation.true)
          (ap (λ v. values_behind v.items) w.list-is ∙ ap values_behind w.in_ok-push_item.ensures
          ∙ map-append look l.list.items (x ∷ []))
          l.invariant
      | else-is_annotation w ↦
          kept_no_more look c.args.spans.now l.span-index x c.loop-span-test.true c.span-item.is is_annotation []
          (values_behind c.if-is_annotation.list.items) (sym c.is_annotation.ensures ∙ w.if-is_annotation.false)
          (ap (λ v. values_behind v.items) w.list-is ∙ l.invariant)
    ]

pub returns : goal.returns
returns c =
    c.loop-span.invariant
    ∙ ap (λ (vs : List (Bor Value)). filter is_annotation (values_behind vs))
    (take_all c.loop-span.span-index c.args.spans.now c.loop-span-test.false)
