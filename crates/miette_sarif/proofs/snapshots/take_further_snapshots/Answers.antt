use Rattle.std.proofs.Common.{ap, arith, map}
use Rattle.miette_tree.specs.views.Attachments.{section_of}
use Rattle.miette_sarif.specs.views.Sources.{snapshot_of}
use Rattle.miette_sarif.proofs.Gathers.{all_further, next_in, no_further, none_in, one_further}
use Rattle.miette_sarif.proofs.Keys.{map_pushed}
use Rattle.miette_sarif.proofs.snapshots.take_further_snapshots.Goals as goal

pub loop-section-init : goal.loop-section-init
loop-section-init g c = no_further _ _ _ (ap (map snapshot_of) c.in_ok-list.ensures.items)

pub loop-section-preserved : goal.loop-section-preserved
loop-section-preserved g c =
    let l = c.loop-section in
    one_further _ _ _ _ _ _ _ _ _ _ _ (next_in (section_of g.S.SourceCode.source) c.args.sections.now l.section-index
    c.section-item.result c.loop-section-test.true c.section-item.is) l.invariant c.in_ok-seen.ensures.seen
    c.source.ensures c.in_ok-seen.ensures.counted
    (map_pushed snapshot_of l.list.items c.push.new.self.items c.in_ok-seen.seen c.in_ok-push.ensures.items)

pub returns-clause-seen : goal.returns-clause-seen
returns-clause-seen g c =
    let l = c.loop-section in
    let ended = all_further _ _ _ _ _ (none_in (section_of g.S.SourceCode.source) c.args.sections.now l.section-index
    (omega arith)) l.invariant in
    ended.0
