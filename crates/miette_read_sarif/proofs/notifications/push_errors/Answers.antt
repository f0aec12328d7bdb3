use Rattle.std.proofs.Common.{◌++◌, Bor, filter, ap, sym, ◌∙◌}
use Rattle.std.proofs.lemmas.List.{map-append}
use Rattle.serde_json.specs.View.{view}
use Rattle.serde_json.specs.declared.value.Value.{Value}
use Rattle.miette_read.specs.views.Values.{values_behind}
use Rattle.miette_read.proofs.Steps.{kept_more, kept_no_more}
use Rattle.miette_read_sarif.specs.rules.Notices.{is_error_notification}
use Rattle.miette_read_sarif.proofs.Steps.{made_of_all}
use Rattle.miette_read_sarif.proofs.notifications.push_errors.Goals.{then-is_error_notification+in_ok-push_item}
use Rattle.miette_read_sarif.proofs.notifications.push_errors.Goals.{else-is_error_notification}
use Rattle.miette_read_sarif.proofs.notifications.push_errors.Goals as goal

pub loop-notice-preserved : goal.loop-notice-preserved
loop-notice-preserved c =
    let l = c.loop-notice in
    let look = λ (v : Bor Value). view v.now in
    let items = c.as_slice-notice-items.result.now in
    let before = values_behind c.args.list.now.items in
    elim c.if-is_error_notification.branch [
      | then-is_error_notification+in_ok-push_item w ↦
          kept_more look items l.notice-index c.notice-item.result c.loop-notice-test.true c.notice-item.is
          is_error_notification
          before (values_behind l.list.items) (values_behind c.if-is_error_notification.list.items)
          (sym c.is_error_notification.ensures ∙ w.if-is_error_notification.true)
          (ap (λ v. values_behind v.items) w.list-is ∙ ap values_behind w.in_ok-push_item.ensures
          ∙ map-append look l.list.items _)
          l.invariant
      | else-is_error_notification w ↦
          kept_no_more look items l.notice-index c.notice-item.result c.loop-notice-test.true c.notice-item.is
          is_error_notification
          before (values_behind c.if-is_error_notification.list.items)
          (sym c.is_error_notification.ensures ∙ w.if-is_error_notification.false)
          (ap (λ v. values_behind v.items) w.list-is ∙ l.invariant)
    ]

pub returns : goal.returns
returns c =
    made_of_all (λ (v : Bor Value). view v.now) (λ ds. values_behind c.args.list.now.items
    ++ filter is_error_notification ds)
    c.as_slice-notice-items.result.now _ c.loop-notice.notice-index _ _ c.loop-notice-test.false
    c.as_slice-notice-items.ensures.value c.in_ok-notices.ensures c.loop-notice.invariant
