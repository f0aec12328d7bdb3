use Rattle.std.proofs.Common.{ap, ◌∙◌, take, arith}
use Rattle.std.specs.List.{filter}
use Rattle.miette_narrated.specs.steps.LabelSweep.{reaches}
use Rattle.miette_narrated.proofs.Sweeps.{reach_later}
use Rattle.miette_narrated.proofs.label_sweep.advance_to.Goals as goal

pub take_labels_to-requires-2 : goal.take_labels_to-requires-2
take_labels_to-requires-2 c =
    let old = c.args.sweep.now in
    c.keep_reaching.ensures ∙ ap (filter (reaches c.args.place)) c.requires
    ∙ reach_later old.at c.args.place (take old.next c.args.labels.now) (omega arith)
