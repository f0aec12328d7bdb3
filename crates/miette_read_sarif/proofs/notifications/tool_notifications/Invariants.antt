use Rattle.std.proofs.Common.{◌≡◌, take}
use Rattle.std.specs.List.{flat_map}
use Rattle.miette_read.specs.views.Values.{values_behind}
use Rattle.miette_read_sarif.specs.rules.Notices.{notices_in}
use Rattle.miette_read_sarif.proofs.notifications.tool_notifications.Given as goal

abbrev pub invariant-loop-invocation : goal.invariant-loop-invocation
invariant-loop-invocation l =
    values_behind l.list.items ≡ flat_map notices_in (values_behind (take l.invocation-index l.invocation-items))
