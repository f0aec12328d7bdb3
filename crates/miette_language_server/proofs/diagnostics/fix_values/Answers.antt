use Rattle.miette_language_server.specs.rules.Values.{fix_value}
use Rattle.miette_language_server.proofs.Lists.{value_more, values_all}
use Rattle.miette_language_server.proofs.diagnostics.fix_values.Goals as goal

pub loop-fix-preserved : goal.loop-fix-preserved
loop-fix-preserved c =
    let l = c.loop-fix in
    value_more (fix_value c.args.uri.now c.args.source.now) c.args.fixes.now l.fix-index c.fix-item.result
    l.values.items c.push.new.list.items c.in_ok-value.value c.loop-fix-test.true c.fix-item.is c.in_ok-push.ensures.ok
    c.in_ok-value.ensures l.invariant

pub returns : goal.returns
returns c =
    let l = c.loop-fix in
    values_all (fix_value c.args.uri.now c.args.source.now) c.args.fixes.now l.fix-index l.values.items
    c.loop-fix-test.false l.invariant
