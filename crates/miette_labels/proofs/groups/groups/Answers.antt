use Rattle.miette_labels.proofs.GroupsOfReads.{reads_accepted, all_contents, grouped_own, grouped_joined}
use Rattle.miette_labels.proofs.groups.groups.Goals as goal

pub own_groups-requires : goal.own_groups-requires
own_groups-requires g c = reads_accepted c.args.context (g.S.SourceCode.source c.args.source.now) c.args.labels.now
    c.args.reads.now c.requires.each

pub returns-then-any_own_context : goal.returns-then-any_own_context
returns-then-any_own_context g c =
    grouped_own (λ v. v.items) c.args.context (g.S.SourceCode.source c.args.source.now) c.args.labels.now
    c.args.reads.now c.any_own_context.result c.in_ok-groups.groups c.requires.order c.requires.each
    c.any_own_context.ensures c.if-any_own_context.true c.in_ok-groups.ensures

pub joined_groups-requires : goal.joined_groups-requires
joined_groups-requires g c =
    all_contents c.args.context (g.S.SourceCode.source c.args.source.now) c.args.labels.now c.args.reads.now
    c.any_own_context.result c.any_own_context.ensures c.if-any_own_context.false c.requires.each

pub returns : goal.returns
returns g c =
    grouped_joined c.args.context (g.S.SourceCode.source c.args.source.now) c.args.labels.now c.args.reads.now
    c.any_own_context.result c.in_ok-groups-2.groups.items c.requires.order c.requires.each
    c.any_own_context.ensures c.if-any_own_context.false c.in_ok-groups-2.ensures
