use Rattle.std.proofs.Common.{[], Bor}
use Rattle.std.specs.List.{flat_map}
use Rattle.serde_json.specs.View.{view}
use Rattle.serde_json.specs.declared.value.Value.{Value}
use Rattle.miette_read.specs.views.Values.{values_behind}
use Rattle.miette_read.proofs.Steps.{flat_more}
use Rattle.miette_read_sarif.specs.rules.Notices.{notices_in}
use Rattle.miette_read_sarif.proofs.Steps.{made_of_all}
use Rattle.miette_read_sarif.proofs.notifications.tool_notifications.Goals as goal

pub loop-invocation-preserved : goal.loop-invocation-preserved
loop-invocation-preserved c =
    let l = c.loop-invocation in
    flat_more (λ (v : Bor Value). view v.now) c.as_slice-invocation-items.result.now l.invocation-index
    c.invocation-item.result c.loop-invocation-test.true c.invocation-item.is notices_in [] (values_behind l.list.items)
    (values_behind c.push_notices.new.list.items) c.in_ok-push_notices.ensures l.invariant

pub returns : goal.returns
returns c =
    made_of_all (λ (v : Bor Value). view v.now) (flat_map notices_in) c.as_slice-invocation-items.result.now _
    c.loop-invocation.invocation-index _ _ c.loop-invocation-test.false c.as_slice-invocation-items.ensures.value
    c.in_ok-invocations.ensures c.loop-invocation.invariant
