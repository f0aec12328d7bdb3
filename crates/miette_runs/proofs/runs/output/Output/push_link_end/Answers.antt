use Rattle.std.proofs.Common.{◌∙◌, ◌++◌, ap}
use Rattle.std.proofs.lemmas.Str.{chars-nil}
use Rattle.std.proofs.lemmas.Result.{on_ok_weaker}
use Rattle.miette_runs.specs.rules.Runs.{link_start}
use Rattle.miette_runs.proofs.runs.output.Output.push_link_end.Goals as goal

pub returns : goal.returns
returns c =
    on_ok_weaker c.push_link.result (λ h. h ∙ ap (λ x. c.args.self.now ++ link_start x) chars-nil) c.push_link.ensures
