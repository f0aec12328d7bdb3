use Rattle.std.proofs.Common.{◌≡◌, ◌++◌, drop}
use Rattle.miette_runs.proofs.runs.reading.byte_codes.Given as goal

abbrev pub invariant-loop-byte : goal.invariant-loop-byte
invariant-loop-byte l = l.codes.items ++ drop l.byte-index l.bytes ≡ l.bytes
