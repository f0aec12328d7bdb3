use Rattle.std.proofs.Common.{length, ◌-◌, ◌≡◌, true, ◌≤◌, ◌++◌, drop}
use Rattle.miette_runs.specs.rules.Sequences.{command_len, tokens}
use Rattle.miette_runs.proofs.runs.reading.cut.Given as goal

abbrev pub invariant-rest : goal.invariant-rest
invariant-rest l = record {
  cut : l.found ++ tokens (drop l.i l.codes) ≡ tokens l.codes;
  within : l.i ≤ length l.codes;
  known : l.unfinished ≡ true → command_len (drop l.i l.codes) ≡ 0;
}

abbrev pub decreases-rest : goal.decreases-rest
decreases-rest l = length l.codes - l.i
