use Rattle.std.proofs.Common.{sym, ◌∙◌}
use Rattle.miette_labels.proofs.SortedLabels.{label_got}
use Rattle.miette_brief.proofs.primary.label_of.Goals as goal

pub returns : goal.returns
returns c = c.index-labels-turn.is ∙ sym (label_got c.args.labels.now c.args.turn.index c.index-labels-turn.result
    c.requires.inside)
