use Rattle.miette_lint.specs.views.Found.{coded_of}
use Rattle.miette_language_server.specs.rules.Diagnostics.{diagnostic_value}
use Rattle.miette_language_server.proofs.Lists.{value_more, values_all}
use Rattle.miette_language_server.proofs.diagnostics.diagnostic_values.Goals as goal

pub loop-it-preserved : goal.loop-it-preserved
loop-it-preserved c =
    let l = c.loop-it in
    value_more (λ it. diagnostic_value c.args.uri.now c.args.source.now (coded_of it)) c.args.found.now l.it-index
    c.it-item.result l.values.items c.push.new.list.items c.in_ok-value.value c.loop-it-test.true c.it-item.is
    c.in_ok-push.ensures.ok c.in_ok-value.ensures l.invariant

pub returns : goal.returns
returns c =
    let l = c.loop-it in
    values_all (λ it. diagnostic_value c.args.uri.now c.args.source.now (coded_of it)) c.args.found.now l.it-index
    l.values.items c.loop-it-test.false l.invariant
