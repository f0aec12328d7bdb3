use Rattle.std.proofs.Common.{map, drop}
use Rattle.miette_labels.proofs.GroupsSoFar.{AreGathered}
use Rattle.miette_labels.proofs.groups.joined_groups.Given as goal

abbrev pub invariant-loop-label : goal.invariant-loop-label
invariant-loop-label g l = AreGathered l.context (g.S.SourceCode.source l.source) (map (λ label. label.span) l.labels)
    (map (λ label. label.span) (drop l.label-index l.rest)) l.done.items l.before
