use Rattle.std.proofs.Common.{[], List, Bor, filter, ap, sym, ◌∙◌}
use Rattle.std.proofs.lemmas.List.{map-append, take_all}
use Rattle.serde_json.specs.View.{view}
use Rattle.serde_json.specs.declared.value.Value.{Value}
use Rattle.miette_read.specs.rules.Members.{is_object}
use Rattle.miette_read.specs.views.Values.{values_behind, viewed}
use Rattle.miette_read.proofs.Steps.{kept_more, kept_no_more}
use Rattle.miette_read.proofs.members.member_objects.Goals.{then-is_object+in_ok-push_item, else-is_object}
use Rattle.miette_read.proofs.members.member_objects.Goals as goal

pub loop-item-preserved : goal.loop-item-preserved
loop-item-preserved c =
    let l = c.loop-item in
    let look = λ (v : Bor Value). view v.now in
    let items = c.member_items-item-items.result.now in
    elim c.if-is_object.branch [
      | then-is_object+in_ok-push_item w ↦
          kept_more view items l.item-index c.item-item.result c.loop-item-test.true c.item-item.is is_object []
          (values_behind l.list.items) (values_behind c.if-is_object.list.items)
          (sym c.is_object.ensures ∙ w.if-is_object.true)
          (ap (λ v. values_behind v.items) w.list-is ∙ ap values_behind w.in_ok-push_item.ensures
          ∙ map-append look l.list.items _)
          l.invariant
      | else-is_object w ↦
          kept_no_more view items l.item-index c.item-item.result c.loop-item-test.true c.item-item.is is_object []
          (values_behind c.if-is_object.list.items) (sym c.is_object.ensures ∙ w.if-is_object.false)
          (ap (λ v. values_behind v.items) w.list-is ∙ l.invariant)
    ]

pub returns : goal.returns
returns c =
    c.loop-item.invariant
    ∙ ap (λ (vs : List Value). filter is_object (viewed vs))
    (take_all c.loop-item.item-index c.member_items-item-items.result.now c.loop-item-test.false)
    ∙ ap (filter is_object) c.member_items-item-items.ensures
