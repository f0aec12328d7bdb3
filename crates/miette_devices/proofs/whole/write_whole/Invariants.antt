use Rattle.std.proofs.Common.{◌≡◌, ◌++◌, false, length, List, ℕ}
use Rattle.std.specs.Io.KnownBytes.{Appends}
use Rattle.miette_devices.proofs.whole.write_whole.Given as goal

-- no call failed, and the writer took the bytes in front of the rest
abbrev pub invariant-loop-rest : goal.invariant-loop-rest
invariant-loop-rest g l =
    (l.writer.failed ≡ false)
    × ((taken : List ℕ) × (l.bytes ≡ taken ++ l.rest) × Appends (g.W.Write.contents l.initial.writer.inner)
    (g.W.Write.contents l.writer.inner) taken)

abbrev pub decreases-loop-rest : goal.decreases-loop-rest
decreases-loop-rest g l = length l.rest
