use Rattle.std.proofs.Common.{◌≡◌, drop}
use Rattle.miette_runs.specs.rules.Sequences.{colour_end_len}
use Rattle.miette_runs.proofs.Counting.{counted}
use Rattle.miette_text.proofs.wrapping.blank_lines.colour_end_len.Given as goal

abbrev pub invariant-loop-i : goal.invariant-loop-i
invariant-loop-i l = colour_end_len l.bytes ≡ counted l.i (colour_end_len (drop l.i l.bytes))
