use Rattle.std.proofs.Common.{◌∙◌, ap}
use Rattle.miette_runs.specs.views.Interleaving.{interleaving}
use Rattle.miette_runs.proofs.Weaving.{woven-none}
use Rattle.miette_runs.proofs.runs.Runs.of_characters.Goals as goal

pub returns : goal.returns
returns c = ap (λ vs. interleaving 0 c.args.codes.items vs) c.new.ensures.items ∙ woven-none 0 c.args.codes.items
