use Rattle.std.proofs.Common.{◌≡◌, ◌++◌, filter, take}
use Rattle.miette_read.specs.views.Values.{values_behind}
use Rattle.miette_read_sarif.specs.rules.Notices.{is_error_notification}
use Rattle.miette_read_sarif.proofs.notifications.push_errors.Given as goal

abbrev pub invariant-loop-notice : goal.invariant-loop-notice
invariant-loop-notice l =
    values_behind l.list.items ≡ values_behind l.initial.list.items ++ filter is_error_notification
    (values_behind (take l.notice-index l.notice-items))
