use Rattle.std.proofs.Common.{◌≡◌, ◌++◌, map}
use Rattle.miette_runs.specs.rules.Sequences.{Character}
use Rattle.miette_runs.proofs.runs.Runs.push_str.Given as goal

abbrev pub invariant-loop-c : goal.invariant-loop-c
invariant-loop-c l = l.self ≡ l.fn.self ++ map Character l.yielded
