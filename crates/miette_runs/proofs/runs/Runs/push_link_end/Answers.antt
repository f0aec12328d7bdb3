use Rattle.std.proofs.Common.{◌∙◌, ◌++◌, ap}
use Rattle.std.proofs.lemmas.Result.{on_ok_weaker}
use Rattle.miette_runs.specs.rules.Runs.{link_start}
use Rattle.miette_runs.specs.rules.Sequences.{spell}
use Rattle.miette_runs.proofs.Painting.{chars-none}
use Rattle.miette_runs.proofs.runs.Runs.push_link_end.Goals as goal

pub returns : goal.returns
returns c = record {
  text = on_ok_weaker c.push_link.result (λ h.
      h ∙ ap (λ xs. spell c.args.self.now ++ link_start xs) chars-none) c.push_link.ensures.text;
}
