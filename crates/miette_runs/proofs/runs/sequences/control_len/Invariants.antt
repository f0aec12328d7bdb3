use Rattle.std.proofs.Common.{◌≡◌, drop}
use Rattle.miette_runs.specs.rules.Sequences.{control_len}
use Rattle.miette_runs.proofs.Counting.{counted}
use Rattle.miette_runs.proofs.runs.sequences.control_len.Given as goal

abbrev pub invariant-loop-i : goal.invariant-loop-i
invariant-loop-i l = control_len l.codes ≡ counted l.i (control_len (drop l.i l.codes))
