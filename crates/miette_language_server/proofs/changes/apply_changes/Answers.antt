use Rattle.miette_language_server.proofs.Lists.{changed_next}
use Rattle.miette_language_server.proofs.changes.apply_changes.Goals as goal

pub loop-change-preserved : goal.loop-change-preserved
loop-change-preserved c =
    let l = c.loop-change in
    changed_next _ c.args.changes.now l.change-index c.change-item.result l.made.items _ c.loop-change-test.true
    c.change-item.is c.in_ok-made-2.ensures l.invariant
