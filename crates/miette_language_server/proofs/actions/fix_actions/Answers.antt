use Rattle.serde_json.specs.View.{view}
use Rattle.miette_language_server.specs.rules.Actions.{action_value}
use Rattle.miette_language_server.proofs.Lists.{value_more, values_all}
use Rattle.miette_language_server.proofs.actions.fix_actions.Goals as goal

pub loop-fix-preserved : goal.loop-fix-preserved
loop-fix-preserved c =
    let l = c.loop-fix in
    value_more (action_value c.args.uri.now c.args.source.now (view c.args.diagnostic.now)) c.args.fixes.now l.fix-index
    c.fix-item.result l.list.items c.push.new.list.items c.in_ok-action.action c.loop-fix-test.true c.fix-item.is
    c.in_ok-push.ensures.ok c.in_ok-action.ensures l.invariant

pub returns : goal.returns
returns c =
    let l = c.loop-fix in
    values_all (action_value c.args.uri.now c.args.source.now (view c.args.diagnostic.now)) c.args.fixes.now l.fix-index
    l.list.items c.loop-fix-test.false l.invariant
