use Rattle.std.proofs.Common.{◌≡◌, drop}
use Rattle.miette_runs.specs.rules.Sequences.{command_len}
use Rattle.miette_runs.proofs.Counting.{counted}
use Rattle.miette_runs.proofs.runs.sequences.command_len.Given as goal

abbrev pub invariant-loop-i : goal.invariant-loop-i
invariant-loop-i l = command_len l.codes ≡ counted l.i (command_len (drop l.i l.codes))
