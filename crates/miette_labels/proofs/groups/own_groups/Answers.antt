use Rattle.std.proofs.Common.{ap, ◌∙◌}
use Rattle.miette_labels.specs.rules.Groups.{merged_data_spans}
use Rattle.miette_labels.proofs.GroupsOfReads.{groups_accepted}
use Rattle.miette_labels.proofs.groups.own_groups.Goals as goal

pub read_all-requires : goal.read_all-requires
read_all-requires g c =
    groups_accepted (g.S.SourceCode.source c.args.source.now).bytes c.args.reads.now c.deref-2.result.now c.requires
    (c.deref-2.ensures.value ∙ c.in_ok-spans-2.ensures ∙ ap merged_data_spans
    (c.deref.ensures.value ∙ c.in_ok-spans.ensures))
