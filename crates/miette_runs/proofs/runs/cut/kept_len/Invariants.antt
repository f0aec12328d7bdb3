use Rattle.std.proofs.Common.{◌≡◌, ◌≤◌, drop}
use Rattle.miette_runs.specs.steps.Feeds.{kept_len}
use Rattle.miette_runs.proofs.InterleavedCuts.{kept_from}
use Rattle.miette_runs.proofs.runs.cut.kept_len.Given as goal

abbrev pub invariant-loop-i : goal.invariant-loop-i
invariant-loop-i l = record {
  counted : kept_from l.kept l.i (drop l.i l.codes) l.left ≡ kept_len 0 l.codes l.tags;
  within : l.kept ≤ l.i;
}
