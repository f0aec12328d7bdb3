use Rattle.std.proofs.Common.{◌≡◌, ◌++◌, drop, take}
use Rattle.miette_runs.specs.views.Interleaving.{beyond, upto}
use Rattle.miette_runs.proofs.runs.tags.count_tags_before.Given as goal

abbrev pub invariant-loop-i : goal.invariant-loop-i
invariant-loop-i l = record {
  before : take l.i l.tags ++ upto l.at (drop l.i l.tags) ≡ upto l.at l.tags;
  behind : beyond l.at (drop l.i l.tags) ≡ beyond l.at l.tags;
}
