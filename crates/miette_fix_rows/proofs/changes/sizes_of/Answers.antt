use Rattle.std.proofs.Common.{length, ◌-◌}
use Rattle.miette_fix_rows.proofs.Parting.{sizes_are, total_fits}
use Rattle.miette_fix_rows.proofs.changes.sizes_of.Goals as goal

pub total-requires : goal.total-requires
total-requires c = total_fits c.args.olds.now c.common-before.result _ c.requires.old

pub total-requires-2 : goal.total-requires-2
total-requires-2 c =
    total_fits c.args.olds.now (length c.args.olds.now - c.common-after.result) _ c.requires.old

pub total-requires-3 : goal.total-requires-3
total-requires-3 c = total_fits c.args.news.now c.common-before.result _ c.requires.new

pub total-requires-4 : goal.total-requires-4
total-requires-4 c =
    total_fits c.args.news.now (length c.args.news.now - c.common-after.result) _ c.requires.new

pub returns : goal.returns
returns c =
    sizes_are c.args.olds.now c.args.news.now _ c.common-after.result c.common-before.result
    c.common-after.ensures.common c.common-before.ensures.common c.total.ensures c.total-2.ensures
    c.total-3.ensures c.total-4.ensures
