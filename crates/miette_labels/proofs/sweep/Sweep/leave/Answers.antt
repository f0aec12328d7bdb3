use Rattle.std.proofs.Common.{rules}
use Rattle.std.proofs.lemmas.Fn.{filter_same}
use Rattle.miette_labels.specs.views.Sweeping.{passes}
use Rattle.miette_labels.proofs.sweep.Sweep.leave.Goals as goal

pub returns-clause-running : goal.returns-clause-running
returns-clause-running c = filter_same _ (passes c.args.after) _ (λ x b f' k. search rules) _ _
    c.retain.ensures.filtered
